-- Random saved programs with the listings that they mean or their refusals, by a second reading of document 02. Assumes nothing.
use Rattle.std.specs.Prelude.{List, [], ◌∷◌, T}
use Rattle.program_vectors.specs.Vector.{Vector, right, opened}

table : List Vector
table =
    record { saved = "010819080D003A8BCB20A720824A364930492C44594233593A001E08D503000000"; means = "(module 0\n(line 13\n(if\n(stmts\n(next plain J6 DY)\n)\n)\n)\n(line 981\n)\n)\n" } ∷
    record { saved = "0108080805008A2C001608FFF9808B41A7CBCB893130001F080500392E8D20000000"; means = "(refused 4 2)\n" } ∷
    record { saved = "01083A08050020912022893AFF228420CBA4353ACB3A8E3A3A3A8BA78A3A203A91242220FFA78F228D3633393939DB3A203A814C380042394C240061085E0191EA89352C30833A3A912E35D11189303030302C303A3A3A8BB7223A413A22A78A35000000"; means = "(refused 4 2)\n" } ∷
    record { saved = "3F64FFFFE00280228F6401226EA4308B3A2E228F222264FF83223A8B37A78B2E4A70228F22A78D3036333939390000013896814A20E600FFFF91A6410F30228322223A8F22A73A000000"; means = "(module 0\n(line 736\n(stop)\n(plain)\n(if\n(stmts\n(if\n(stmts\n(gosub 63999)\n)\n)\n)\n)\n)\n(line 38456\n(for J static)\n)\n(line 42641\n(plain)\n)\n)\n" } ∷
    record { saved = "01081008AA558A3A8E3A99229364223B000000"; means = "(module 0\n(line 21930\n(run)\n(return)\n(plain)\n)\n)\n" } ∷
    record { saved = "0108070800003A0026080100A0313A9C3A89303A8B2841AA4229AD32A7824A423141382C4425003F0803008931383236323A8B4124B2225448454E3A22A73A00790804008249435A304A335A43243A8A3A8B4124B2225448454E3A22A7823A914124B2225448454E3A228D343A91C2283129B230B0AB588930008308070090203A8220000000"; means = "(module 0\n(line 0\n)\n(line 1\n(plain)\n(clr)\n(goto 0)\n(if\n(stmts\n(next plain JB D%)\n)\n)\n)\n(line 3\n(goto 18262)\n(if\n(stmts\n)\n)\n)\n(line 4\n(next plain IC$)\n(run)\n(if\n(stmts\n(next plain *)\n(ongosub 4)\n(ongoto 0)\n)\n)\n)\n(line 7\n(stop)\n(next plain *)\n)\n)\n" } ∷
    record { saved = "01080D0800019C2C8931302480000000"; means = "(module 0\n(line 256\n(clr)\n)\n)\n" } ∷
    record { saved = "01083B480100912041208920312C35303233362C33373130313A82203A8B204124B2225448454E3A2230A7208120494AB24120A4204220A920AB3100410809003A000000"; means = "(module 0\n(line 1\n(ongoto 1 50236 37101)\n(next plain *)\n(if\n(stmts\n(for IJ static)\n)\n)\n)\n(line 9\n)\n)\n" } ∷
    record { saved = "0108150895033A9C253A3A3A8D3931373A8215203A000000"; means = "(module 0\n(line 917\n(clr)\n(gosub 917)\n(next plain *)\n)\n)\n" } ∷
    record { saved = "01081F08A9CB9120C2283129B230B0AB58208D2035323133372C3532313337000000"; means = "(module 0\n(line 52137\n(ongosub 52137 52137)\n)\n)\n" } ∷
    record { saved = "01081508BA00814A33443537365831B230A458AC3200460822028A3A9C3A814130373443443333B230A458AC323A8B2841AA4229AD32A7814938594C5A433444B230A458AC32004C0857033A000000"; means = "(module 0\n(line 186\n(for J3 static)\n)\n(line 546\n(run)\n(clr)\n(for A0 static)\n(if\n(stmts\n(for I8 static)\n)\n)\n)\n(line 855\n)\n)\n" } ∷
    record { saved = "01081208FFF9A7CB822C31319C2841902F30002308050081412E2E822C3A8B91418D90002908000189000000"; means = "(refused 35 35)\n" } ∷
    record { saved = "126464647D01824243583237402000000000"; means = "(module 0\n(line 381\n(next plain BC)\n)\n)\n" } ∷
    record { saved = "01082008A40283205448454E2C413A8A203637363A81204A24B23120A4203130000000"; means = "(module 0\n(line 676\n(plain)\n(run 676)\n(for J$ static)\n)\n)\n" } ∷
    record { saved = "01080708580320002F0877033A9C694EA42A2289223A3A8B35A73A353A81514A46344D4B524250553825832C31203A000000"; means = "(module 0\n(line 856\n)\n(line 887\n(clr)\n(if\n(stmts\n(plain)\n(for QJ% static)\n)\n)\n)\n)\n" } ∷
    record { saved = "0108190800013ACBCB3A3ACBCB83C191914189302036343030002408FFF98D828F22CBCB000000"; means = "(refused 35 31)\n" } ∷
    record { saved = "0108320805008D20353A4124B222474F544F2031303A22AA42243A8B202841AA4229AD3220A7209C203A83"; means = "(refused 33 43)\n" } ∷
    record { saved = "CFCF010810003A3A00010024CB8A3A8159314E4757364750395749243A814B3636259D41A42E83203A000000"; means = "(module 0\n(line 16\n)\n(line 52004\n(run)\n(for Y1$ static)\n(for K6% static)\n)\n)\n" } ∷
    record { saved = "01080808D3038A20000000"; means = "(module 0\n(line 979\n(run)\n)\n)\n" } ∷
    record { saved = "010807087E013A000D081E023A00330827028149334438B241A442A9AB313A8BC82841242C3129B2C728333429893534323A89003E0881028D3633393939006008AC038B2041B23120A7209120C82841242C3129B2C728333429208D20353531000000"; means = "(module 0\n(line 382\n)\n(line 542\n)\n(line 551\n(for I3 static)\n(if\n(to 542)\n)\n)\n(line 641\n(gosub 63999)\n)\n(line 940\n(if\n(stmts\n(ongosub 551)\n)\n)\n)\n)\n" } ∷
    record { saved = "01081208FFF991813A6140648931308B41A7000000"; means = "(refused 35 8)\n" } ∷
    record { saved = "01083A0508BCC4824C242222913A8B22"; means = "(refused 33 16)\n" } ∷
    record { saved = "01080608B102000000"; means = "(module 0\n(line 689\n)\n)\n" } ∷
    record { saved = "0108070828033A000000"; means = "(module 0\n(line 808\n)\n)\n" } ∷
    record { saved = "01080F080001822C2F8241315B9141000000"; means = "(module 0\n(line 256\n(next plain *)\n)\n)\n" } ∷
    record { saved = "01083108A0609141B2318D32343733362C32343733363A824431252C493551344443355A243A903A8B41A7824C3658385A000000"; means = "(module 0\n(line 24736\n(ongosub 24736 24736)\n(next plain D1% I5$)\n(stop)\n(if\n(stmts\n(next plain L6)\n)\n)\n)\n)\n" } ∷
    record { saved = "01080B08FFF90182418A61000000"; means = "(module 0\n(line 63999\n(plain)\n)\n)\n" } ∷
    record { saved = "01080A08"; means = "(refused 33 4)\n" } ∷
    record { saved = "D6C70100AE00202B8D34000000"; means = "(module 0\n(line 174\n(plain)\n)\n)\n" } ∷
    record { saved = "01081B0801008320312C22413A42222C52454D3A8D203633393939000000"; means = "(module 0\n(line 1\n(plain)\n(gosub 63999)\n)\n)\n" } ∷
    record { saved = "0108080802009020001808040081205A25B23120A4203130002C0806008151323439B231A431303A8B41A73A005908070096A541285829B258AC323A92312C323A823A8BA851A78B41B231A78B41B3B142AF58B132A7323A89006308090080203A8E20000000"; means = "(module 0\n(line 2\n(stop)\n)\n(line 4\n(for Z% static)\n)\n(line 6\n(for Q2 static)\n(if\n(stmts\n)\n)\n)\n(line 7\n(plain)\n(plain)\n(next plain *)\n(if\n(stmts\n(if\n(stmts\n(if\n(to 2)\n)\n)\n)\n)\n)\n)\n(line 9\n(stop)\n(return)\n)\n)\n" } ∷
    record { saved = "0108150800013B61CB418B41A7203130412C3AB25A002308FFF9B22520202E8D3A8141002F080900824122319C2039000000"; means = "(refused 4 2)\n" } ∷
    record { saved = "010807"; means = "(refused 33 3)\n" } ∷
    record { saved = "1D75000102002080CA00FFFF06008E3A8BA7832C3A25253A0000006401"; means = "(module 0\n(line 2\n(stop)\n)\n(line 6\n(return)\n(if\n(stmts\n(plain)\n(plain)\n)\n)\n)\n)\n" } ∷
    record { saved = "01080B080D0082204958250015085B009220312C32001E08E90082595835002908F7009E3634373338005C08C20181204C5A41B23020A42058AC323A8D2031333A9C203A8B20C82841242C3129B2C72833342920CB20A4203734328F006708E8018E3A8D323437007508E60282444B49243AA14B24007B08BC033A000000"; means = "(module 0\n(line 13\n(next plain IX%)\n)\n(line 91\n(plain)\n)\n(line 233\n(next plain YX)\n)\n(line 247\n(plain)\n)\n(line 450\n(for LZ static)\n(gosub 13)\n(clr)\n(if\n(to 742)\n)\n)\n(line 488\n(return)\n(gosub 247)\n)\n(line 742\n(next plain DK$)\n(plain)\n)\n(line 956\n)\n)\n" } ∷
    record { saved = "010810080500C191418DCBCB31308F240026080900313042312F2501905A01613634303022200037080A00CBCB208F8B41898241283A3B000000"; means = "(module 0\n(line 5\n(plain)\n)\n(line 9\n(plain)\n)\n(line 10\n(plain)\n)\n)\n" } ∷
    record { saved = "0108120803002020D5208389203A3A3A8E3A001808040020002208050082204C4A25003F0806008931313A824234252C4B2C4C2C443A8B778935228F31228F006208070020203A3A825A2C422024E8208320A7222041228F3A3A3A918D31312C203500760809003A8B2220413A2022A79C2283222520007E"; means = "(refused 33 120)\n" } ∷
    record { saved = "01081108090091C5893633393939BA5C3A000000"; means = "(module 0\n(line 9\n(ongoto 63999)\n)\n)\n" } ∷
    record { saved = "010806080500000000"; means = "(module 0\n(line 5\n)\n)\n" } ∷
    record { saved = "01081208FFF93B8B8B2C8B418991418D0120000000"; means = "(module 0\n(line 63999\n(plain)\n)\n)\n" } ∷
    []

right-table : T (right table)
unfolding opened right table
right-table = tt
