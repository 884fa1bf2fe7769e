-- Random saved programs with the listings that they mean or their refusals, by a second reading of document 02. Assumes nothing.
use Rattle.std.specs.Prelude.{List, [], ◌∷◌, T}
use Rattle.program_vectors.specs.Vector.{Vector, right, opened}

table : List Vector
table =
    record { saved = "01080708326D3A000000"; means = "(module 0\n(line 27954\n)\n)\n" } ∷
    record { saved = "0108100871A98B418934333337373A89000000"; means = "(module 0\n(line 43377\n(if\n(to 43377)\n)\n)\n)\n" } ∷
    record { saved = "010821085800918D302C302C30303035383930392C36333939392C30222C20892200340816023A3A9C3A8BCB2222A73533348F20004C08B7033A8A363339393922832222418922752583203A000000"; means = "(module 0\n(line 88\n(ongosub 0 0 58909 63999 0)\n)\n(line 534\n(clr)\n(if\n(to 534)\n)\n)\n(line 951\n(run 63999)\n)\n)\n" } ∷
    record { saved = "01082208FFF922CBCB8241A7803130993A3A3A2299A431618B41892F91418930CBCB000000"; means = "(module 0\n(line 63999\n(plain)\n)\n)\n" } ∷
    record { saved = "010816080000208D303030383A814C2020648F2220001B0802000027080500CB3A81514B253A00440808008A303030303A3A3A8B3F30A73A3A8BCBA78EA43A8EBD8F3A0070080B003A3A91228383892222892089228D36333939392C302C3035363836332C302C31353024CBE8A783000000"; means = "(refused 34 17)\n" } ∷
    record { saved = "0108160806004124B222474F544F2031303A22AA422400440807009120C82841242C3129B2C728333429208D20372C34323937383A8B20C2283129B230B0AB5820A7203A005F080A009C203A822043332C4B3A8B20A8205120892031303A99000000"; means = "(module 0\n(line 6\n(plain)\n)\n(line 7\n(ongosub 7 42978)\n(if\n(stmts\n)\n)\n)\n(line 10\n(clr)\n(next plain C3 K)\n(if\n(to 10)\n)\n)\n)\n" } ∷
    record { saved = "01080B08FFF92589313090000000"; means = "(module 0\n(line 63999\n(plain)\n)\n)\n" } ∷
    record { saved = "0108220838378C3ACB20A42035353738313A4124B222474F544F2031303A23AA42314224004908E5D9812051B23120A42031303A912041B23120CB20A42035353738312C302C3633393939000000"; means = "(module 0\n(line 14136\n(plain)\n(goto 55781)\n(plain)\n)\n(line 55781\n(for Q static)\n(ongoto 55781 0 63999)\n)\n)\n" } ∷
    record { saved = "FA0AFFFFE6013A3A24006464BF03203A3A62CBD12089A48B3A3A3A2081492025000000"; means = "(module 0\n(line 486\n(plain)\n)\n(line 959\n(plain)\n(for I% static)\n)\n)\n" } ∷
    record { saved = "01080A0849018D333239000000"; means = "(module 0\n(line 329\n(gosub 329)\n)\n)\n" } ∷
    record { saved = "01081308FFF92C822036343030898A91418991000000"; means = "(module 0\n(line 63999\n(plain)\n)\n)\n" } ∷
    record { saved = "01082A0809005B2280903234303030C1252C2C3AA72C3A228F2291418D8931303633393939363430308F0030080A00A400420800018931300181413A423131303BCB000000"; means = "(module 0\n(line 9\n(plain)\n)\n(line 10\n(plain)\n)\n(line 256\n(goto 10)\n(plain)\n)\n)\n" } ∷
    record { saved = "01082508A0A78A34323931322C8B3A8E3A3A3A8BA7A7223A8922DD1E245E3A3A3A815A253A002B08F3C920000000"; means = "(module 0\n(line 42912\n(run 42912)\n(return)\n(if\n(stmts\n(plain)\n(for Z% static)\n)\n)\n)\n(line 51699\n)\n)\n" } ∷
    record { saved = "010814080200903A83312C22413A42222C52454D002908060083312C22413A42222C52454D3A903A8C000000"; means = "(module 0\n(line 2\n(stop)\n(plain)\n)\n(line 6\n(plain)\n(stop)\n(plain)\n)\n)\n" } ∷
    record { saved = "01080B080900CB5ACB803B000000"; means = "(module 0\n(line 9\n(plain)\n)\n)\n" } ∷
    record { saved = "0108078908E8003A0000A4"; means = "(refused 33 11)\n" } ∷
    record { saved = "50E8646440403ACBA430303036303338343A3A3A8D3035373735353A3A3A8A3A00FFFF3387203A203A81204333395851652000FFFF9A9B9C3A00010849DB486F3A3AED6C3ACBA43031363434383A00FFFFE0EB20473A000000"; means = "(module 0\n(line 16448\n(goto 60384)\n(gosub 57755)\n(run)\n)\n(line 34611\n(for C3 static)\n)\n(line 39834\n(clr)\n)\n(line 56137\n(plain)\n(plain)\n(goto 16448)\n)\n(line 60384\n(plain)\n)\n)\n" } ∷
    record { saved = "0108070800003A001E0808009C203A81204C25B24120A4204220A920AB31000000"; means = "(module 0\n(line 0\n)\n(line 8\n(clr)\n(for L% static)\n)\n)\n" } ∷
    record { saved = "01081108C5F3824A4C43252C5834355949000000"; means = "(module 0\n(line 62405\n(next plain JL% X4)\n)\n)\n" } ∷
    record { saved = "010808080A008F2200120805002030254231000000"; means = "(refused 4 1)\n" } ∷
    record { saved = "4D5964640100824ACB58246BCE2000000105003A203A8A5C2022223A000000"; means = "(module 0\n(line 1\n(next plain J)\n)\n(line 5\n(run)\n)\n)\n" } ∷
    record { saved = "0108130841003A3A8B41A73A3A824232253A20003A08590182514C252C5A3452424542394F374741253A903A3A3A8B30A48D2241A73122A73635000000"; means = "(module 0\n(line 65\n(if\n(stmts\n(next plain B2%)\n)\n)\n)\n(line 345\n(next plain QL% Z4%)\n(stop)\n(if\n(to 65)\n)\n)\n)\n" } ∷
    record { saved = "01081908ED118E3A814925B241A442A9AB313A8D3334393632001F08CED53A00310890D981204C4125B23020A42058AC32000000"; means = "(module 0\n(line 4589\n(return)\n(for I% static)\n(gosub 34962)\n)\n(line 54734\n)\n(line 55696\n(for LA% static)\n)\n)\n" } ∷
    record { saved = "BC10FFFF2B03AE3A3A3A8B3C89303030383131223A0120222222A8222271000000"; means = "(module 0\n(line 811\n(plain)\n(if\n(to 811)\n)\n)\n)\n" } ∷
    record { saved = "01080B0805003634303030000000"; means = "(module 0\n(line 5\n(plain)\n)\n)\n" } ∷
    record { saved = "55D001004F0120815A3A3625203A8B20AF0BA7203A0000006401"; means = "(module 0\n(line 335\n(for Z static)\n(plain)\n(if\n(stmts\n)\n)\n)\n)\n" } ∷
    record { saved = "DEAC01008F018A2037383000FFFFB8018158353189208F3A20413A0000018A020000019702203A9C3A3A9C0001080C033A3A8D37383083A76422312C3A223A8A8D00000000"; means = "(module 0\n(line 399\n(run 780)\n)\n(line 440\n(for X5 static)\n)\n(line 650\n)\n(line 663\n(clr)\n(clr)\n)\n(line 780\n(gosub 780)\n(run)\n)\n)\n" } ∷
    record { saved = "01080708FFF92E000000"; means = "(module 0\n(line 63999\n(plain)\n)\n)\n" } ∷
    record { saved = "2343FFFF0000202091898D303A8B000000"; means = "(refused 35 10)\n" } ∷
    record { saved = "010829080A009C203A8B202841AA4229AD3220A7209920229364223B3A8920303A8B20412089203130000000"; means = "(module 0\n(line 10\n(clr)\n(if\n(stmts\n(plain)\n(goto 0)\n(if\n(to 10)\n)\n)\n)\n)\n)\n" } ∷
    record { saved = "0108080805008190002A080A0036343030308BA782912C3A910182418141824140998B898B41A73A8389000000"; means = "(refused 35 7)\n" } ∷
    record { saved = "01082E08FFF9B28F24363430302C8F5A360134303030894082418B41A79141898B41A736343030CBA4914189839C2F000000"; means = "(module 0\n(line 63999\n(plain)\n)\n)\n" } ∷
    record { saved = "13CCFFFF30583A82443436543446494A32494E24006464DCAC8A32203235372036A600000000"; means = "(module 0\n(line 22576\n(next plain D4$)\n)\n(line 44252\n(run 22576)\n)\n)\n" } ∷
    record { saved = "010817080000814225B230A458AC323AA0313A92312C32000000"; means = "(module 0\n(line 0\n(for B% static)\n(plain)\n(plain)\n)\n)\n" } ∷
    record { saved = "1DCD010010003A3A00FFFFE501CB3A3A3A814C305841303A3A3A8BA73A3022A7833A2282309183A73A3A9C3A3AFD3A3A3A8B63893438353A8936343030303A838F00FFFF08023A822C00010827023A3A91CB3572988930303032373737343A3A3A81423642514335363300010094033A3A8E753A3A3A8B22412C012235ED22018FA72289343835228989220000006401"; means = "(module 0\n(line 16\n)\n(line 485\n(plain)\n(for L0 static)\n(if\n(stmts\n(plain)\n(clr)\n(plain)\n(if\n(to 485)\n)\n)\n)\n)\n(line 520\n(next plain *)\n)\n(line 551\n(ongoto 27774)\n(for B6 static)\n)\n(line 916\n(return)\n(if\n(to 485)\n)\n)\n)\n" } ∷
    record { saved = "0108070800FA3A000000"; means = "(refused 35 4)\n" } ∷
    record { saved = "0108470800002081433532A43441CB253A3A208930303AE68D228F3A22833A8B22FF3AA722A73A814220832031202289A722893A8322228F3A208B2E43A78A2E208B3A8251202500610802002080903A814B3A8B8B20A730303020323A8B3A912041000000"; means = "(module 0\n(line 0\n(for C5 static)\n(goto 0)\n(plain)\n(if\n(stmts\n(for B static)\n(plain)\n(if\n(stmts\n(run)\n(next plain Q%)\n)\n)\n)\n)\n)\n(line 2\n(stop)\n(for K static)\n(if\n(to 2)\n)\n)\n)\n" } ∷
    record { saved = "01082108A9019C3A824A3A8A20B2203A3A8BA78158253A8BCBA4203432353A8920000000"; means = "(module 0\n(line 425\n(clr)\n(next plain J)\n(run)\n(if\n(stmts\n(for X% static)\n(if\n(to 425)\n)\n)\n)\n)\n)\n" } ∷
    record { saved = "010818080A008B202841AA4229AD3220CB20A42031303A99000000"; means = "(module 0\n(line 10\n(if\n(to 10)\n)\n)\n)\n" } ∷
    record { saved = "01081308FFF95B83833A5AB25B392531838241000000"; means = "(module 0\n(line 63999\n(plain)\n(plain)\n)\n)\n" } ∷
    []

right-table : T (right table)
unfolding opened right table
right-table = tt
