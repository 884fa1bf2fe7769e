-- Random saved programs with the listings that they mean or their refusals, by a second reading of document 02. Assumes nothing.
use Rattle.std.specs.Prelude.{List, [], ◌∷◌, T}
use Rattle.program_vectors.specs.Vector.{Vector, right, opened}

table : List Vector
table =
    record { saved = "01080E086602814930A458AC32000000"; means = "(module 0\n(line 614\n(for I0 static)\n)\n)\n" } ∷
    record { saved = "46D40001030089353A8B22312064FF22A73A3A8A3439333034FE9E3A8A203620333920393920833A3ACBA430313020923A3A8B22222022222222F9A73300010005003A2081443A0001000A003A3A22FF893A223A3A8E2C8331A7833A82595842323524248F41642200000000"; means = "(module 0\n(line 3\n(goto 5)\n(if\n(stmts\n(run 49304)\n(run 63999)\n(goto 10)\n(if\n(to 3)\n)\n)\n)\n)\n(line 5\n(for D static)\n)\n(line 10\n(plain)\n(return)\n(next plain YX$)\n)\n)\n" } ∷
    record { saved = "010807088F023A00630802038A203A8B20C82841242C3129B2C72833342920A7208A203A912041B3B14220AF58B132208D20303A8A203635353A8B2041B23120A720833A9120C82841242C3129B2C728333429208D203737302C3635352C3633393939000000"; means = "(module 0\n(line 655\n)\n(line 770\n(run)\n(if\n(stmts\n(run)\n(ongosub 0)\n(run 655)\n(if\n(stmts\n(plain)\n(ongosub 770 655 63999)\n)\n)\n)\n)\n)\n)\n" } ∷
    record { saved = "0108080801008E20000000"; means = "(module 0\n(line 1\n(return)\n)\n)\n" } ∷
    record { saved = "01081008FFF991418D2CCB363430308E000000"; means = "(refused 35 9)\n" } ∷
    record { saved = "94661C78825834252C4CD23A"; means = "(refused 33 12)\n" } ∷
    record { saved = "0108130803003A203A208E248D8B832CA73A9000200807003ACB3A203A902231000000"; means = "(module 0\n(line 3\n(return)\n(stop)\n)\n(line 7\n(plain)\n(stop)\n)\n)\n" } ∷
    record { saved = "0108070835BC3A000000"; means = "(module 0\n(line 48181\n)\n)\n" } ∷
    record { saved = "01081A08BD003A20CB3A3A8B208535C7F8A73020303031383983004908DF0182492049423939335A372C41242C41584B33322C4C59384920378220279D22A72220918F642020206483005208150220CBA43000640879023A8E2083203A8BA4C7A7363333006A087103D2000000"; means = "(module 0\n(line 189\n(plain)\n(if\n(to 189)\n)\n)\n(line 479\n(next plain II A$ AX LY)\n)\n(line 533\n(goto 0)\n)\n(line 633\n(return)\n(if\n(to 633)\n)\n)\n(line 881\n(plain)\n)\n)\n" } ∷
    record { saved = "01080C0809003A9C2F245B90000000"; means = "(module 0\n(line 9\n(clr)\n)\n)\n" } ∷
    record { saved = "0108120800013639333939398E3B5B91418939000000"; means = "(module 0\n(line 256\n(plain)\n)\n)\n" } ∷
    record { saved = "010807082D023A000000"; means = "(module 0\n(line 557\n)\n)\n" } ∷
    record { saved = "01080E08000183824142319CCB82000000"; means = "(module 0\n(line 256\n(plain)\n)\n)\n" } ∷
    record { saved = "01084208000164001408FFF95A2C8A222C3A8925000000"; means = "(refused 34 6)\n" } ∷
    record { saved = "01081608A70020293A3A3A8A3136372083832C312220000000"; means = "(module 0\n(line 167\n(plain)\n(run 167)\n)\n)\n" } ∷
    record { saved = "01081808190082205933343A82204C4C32242C4258375A30000000"; means = "(module 0\n(line 25\n(next plain Y3)\n(next plain LL$ BX)\n)\n)\n" } ∷
    record { saved = "010825080A008931308024893130CBA40130363430303A822C612282313083393130306431000000"; means = "(module 0\n(line 10\n(goto 10)\n(next plain *)\n)\n)\n" } ∷
    record { saved = "0108070806003A0000"; means = "(refused 33 9)\n" } ∷
    record { saved = "01082E080D053A3A91D2CBA4313239332C302C2036333939392C313239332C303A8B228F2C2C22A7203132393389000000"; means = "(module 0\n(line 1293\n(ongoto 1293 0 63999 1293 0)\n(if\n(to 1293)\n)\n)\n)\n" } ∷
    record { saved = "01082F080200992022544F3A20223B41243A8B20A8205120A7208A20303A812059B24120A4204220A920AB313A8A20003A0805008D36333939390047080800822049322C4C3624000000"; means = "(module 0\n(line 2\n(plain)\n(if\n(stmts\n(run 0)\n(for Y static)\n(run)\n)\n)\n)\n(line 5\n(gosub 63999)\n)\n(line 8\n(next plain I2 L6$)\n)\n)\n" } ∷
    record { saved = "01081E0811023A3A8244413535494B5A432438832C2289642222FFA78F220051084C0391E289303030303A3A203A824142204D204C4C204A332058423543252C205831385820594B204259254291222283000000"; means = "(module 0\n(line 529\n(next plain DA$)\n)\n(line 844\n(ongoto 0)\n(next plain AB% X1%)\n)\n)\n" } ∷
    record { saved = "01080808050090C1000000"; means = "(module 0\n(line 5\n(stop)\n)\n)\n" } ∷
    record { saved = "010807084E038E000000"; means = "(module 0\n(line 846\n(return)\n)\n)\n" } ∷
    record { saved = "01080D0804008158B231A43130002C080A008D2034363435363A9C203A8B202841AA4229AD3220A7208220440032080B003A000000"; means = "(module 0\n(line 4\n(for X static)\n)\n(line 10\n(gosub 46456)\n(clr)\n(if\n(stmts\n(next plain D)\n)\n)\n)\n(line 11\n)\n)\n" } ∷
    record { saved = "010809080900A7C101000000"; means = "(module 0\n(line 9\n(plain)\n)\n)\n" } ∷
    record { saved = "C124FFFF2F008E51413A824A442C412C5944205231432C20592043205A204120552BA43A8BA73A3A20803A8BCB20A78249838F3A3A8B22203A01222520A7824A593120B93A3A8B3B20E5A734203420353A8B000100BD0100FFFF1D028EE0222F22D6748389893A000000459419CF4A"; means = "(module 0\n(line 47\n(return)\n(next plain JD A YD YC)\n(if\n(stmts\n(stop)\n(if\n(stmts\n(next plain I)\n(if\n(stmts\n(next plain JY)\n(if\n(to 445)\n)\n)\n)\n)\n)\n)\n)\n)\n(line 445\n)\n(line 541\n(return)\n)\n)\n" } ∷
    record { saved = "010818087E013A418BFD3A3A3A802283418322DD2E302222000000"; means = "(module 0\n(line 382\n(plain)\n(stop)\n)\n)\n" } ∷
    record { saved = "010826080A0081204259323425B24120A4204220A920AB313A8B20A8205120A7208720412C42000000"; means = "(module 0\n(line 10\n(for BY% static)\n(if\n(stmts\n(plain)\n)\n)\n)\n)\n" } ∷
    record { saved = "010811088C00992022544F3A20223B4124003008E5008120493251594233594BB23120A42031303A8A203A8D20363538003D089C018B41A73232393A89004A08E3018BA851893232398F006B08E50182204C49314B51415A38253A81204A3524B24120A4204220A920AB3100710892023A007808A3028A300084083B038D203137323032000000"; means = "(module 0\n(line 140\n(plain)\n)\n(line 229\n(for I2 static)\n(run)\n(gosub 658)\n)\n(line 412\n(if\n(to 229)\n)\n)\n(line 483\n(if\n(to 229)\n)\n)\n(line 485\n(next plain LI%)\n(for J5$ static)\n)\n(line 658\n)\n(line 675\n(run 0)\n)\n(line 827\n(gosub 17202)\n)\n)\n" } ∷
    record { saved = "01081908FFF9398B41A742316122908B41893A81413A3A8241000000"; means = "(module 0\n(line 63999\n(plain)\n)\n)\n" } ∷
    record { saved = "012820080001822C894101893130A739CBA440CBA49CC19928B23A8D3A20822C0000"; means = "(refused 35 28)\n" } ∷
    record { saved = "010832080A0091202841AA4229AD3220CB20A42036333436382C31302C36333939393A8C3A9C203A8B204120CB20A4203130000000"; means = "(module 0\n(line 10\n(ongoto 63468 10 63999)\n(plain)\n(clr)\n(if\n(to 10)\n)\n)\n)\n" } ∷
    record { saved = "01085E080F44912041B3B14220AF58B13220CB20A42033373734312C31373432332C343434302C36333939392C303A9120C2283129B230B0AB58208D2036333939392C36333939392C31373432333A8B20A8205120A72033373734313A990067086D934C25B233000000"; means = "(module 0\n(line 17423\n(ongoto 37741 17423 4440 63999 0)\n(ongosub 63999 63999 17423)\n(if\n(to 37741)\n)\n)\n(line 37741\n(plain)\n)\n)\n" } ∷
    record { saved = "01080D080001202C8B8D31308A000000"; means = "(module 0\n(line 256\n(plain)\n)\n)\n" } ∷
    record { saved = "01081308FFF936A734303022918391418D3A398E000000"; means = "(module 0\n(line 63999\n(plain)\n)\n)\n" } ∷
    record { saved = "01081C08D2558241243A208E2420A48322206420642222A720418F2200240861953A8E3A003A08D8CA814B4B413A8144243ACBA4303338323431000000"; means = "(module 0\n(line 21970\n(next plain A$)\n(return)\n)\n(line 38241\n(return)\n)\n(line 51928\n(for KK static)\n(for D$ static)\n(goto 38241)\n)\n)\n" } ∷
    record { saved = "0108170805008B2041B3B14220AF58B13220A7208D2030000000"; means = "(module 0\n(line 5\n(if\n(stmts\n(gosub 0)\n)\n)\n)\n)\n" } ∷
    record { saved = "7F4E0001010000010003003A8AE154A12222303A3A8B22FF22A73122FF20228D000000"; means = "(module 0\n(line 1\n)\n(line 3\n(run)\n(if\n(to 1)\n)\n)\n)\n" } ∷
    record { saved = "010823080001618999613634303030012E8B41A7399040833A018989313081B2B23130000000"; means = "(module 0\n(line 256\n(plain)\n(plain)\n)\n)\n" } ∷
    record { saved = "2A49FFFF63598BA7EC838F3A893232383833733A00000000"; means = "(module 0\n(line 22883\n(if\n(stmts\n(plain)\n(goto 22883)\n)\n)\n)\n)\n" } ∷
    []

right-table : T (right table)
unfolding opened right table
right-table = tt
