-- Random saved programs with the listings that they mean or their refusals, by a second reading of document 02. Assumes nothing.
use Rattle.std.specs.Prelude.{List, [], ◌∷◌, T}
use Rattle.program_vectors.specs.Vector.{Vector, right, opened}

table : List Vector
table =
    record { saved = "013A0810"; means = "(refused 33 4)\n" } ∷
    record { saved = "E5EBFFFF00008BA73A3A815139838F8F8300010003008B2020A79123412220204122B98932343537203922018920A72283318F3A006464040020208D3030303231372036373A3A0C836400000105008A3A8D303A3A8B27A78E91832C3A3A250001000B00803A8B82228922A7823A8B223122A73A00000000"; means = "(module 0\n(line 0\n(if\n(stmts\n(for Q9 static)\n)\n)\n)\n(line 3\n(if\n(stmts\n(ongoto 24579)\n)\n)\n)\n(line 4\n(gosub 21767)\n(plain)\n)\n(line 5\n(run)\n(gosub 0)\n(if\n(stmts\n(return)\n(plain)\n)\n)\n)\n(line 11\n(stop)\n(if\n(stmts\n(next plain *)\n(if\n(stmts\n)\n)\n)\n)\n)\n)\n" } ∷
    record { saved = "0108070802003A000000"; means = "(module 0\n(line 2\n)\n)\n" } ∷
    record { saved = "45CAFFFF05003A0000004A3398667E"; means = "(module 0\n(line 5\n)\n)\n" } ∷
    record { saved = "01080D0800FA5B363339393920000000"; means = "(refused 35 4)\n" } ∷
    record { saved = "010838085B00208A30A7EB8364203A3A3A208B20222022B1A73A203A0181513A3A3A20815824CB83A72C8F203A8B0E28092520893239313A89003D0864000042082301005E08D5023A3A81414957392051203248204D36504B243A3A8E3A2000900802033A3A8159242220A741223A8B23A78A3A3A3A91A88D303030302C302C3030303130302C3730352C303732353A8E000000"; means = "(module 0\n(line 91\n(run 0)\n(if\n(stmts\n(plain)\n(for X$ static)\n(if\n(to 291)\n)\n)\n)\n)\n(line 100\n)\n(line 291\n)\n(line 725\n(for AI$ static)\n(return)\n)\n(line 770\n(for Y$ static)\n(if\n(stmts\n(run)\n(ongosub 0 0 100 705 725)\n(return)\n)\n)\n)\n)\n" } ∷
    record { saved = "01083708345E8E3A918D373237352C36333939392C35303439312C302C35393332303A2C2222B10EA4893A3A3A8BA3A735393332303A89003E08887F8E3A005208B8E7209C3A8D3539203332308F8920A720000000"; means = "(module 0\n(line 24116\n(return)\n(ongosub 7275 63999 50491 0 59320)\n(plain)\n(if\n(to 59320)\n)\n)\n(line 32648\n(return)\n)\n(line 59320\n(clr)\n(gosub 59320)\n)\n)\n" } ∷
    record { saved = "01083B0857018D36333939393A9141B3B142AF58B1328D3635382C3635382C373132362C3635382C36333939393A993A8B41B231A78E3A8D363538004F0892028B20C2283129B230B0AB5820A7209A000000"; means = "(module 0\n(line 343\n(gosub 63999)\n(ongosub 658 658 7126 658 63999)\n(plain)\n(if\n(stmts\n(return)\n(gosub 658)\n)\n)\n)\n(line 658\n(if\n(stmts\n(plain)\n)\n)\n)\n)\n" } ∷
    record { saved = "010809080A003A228F0010080001283A000000"; means = "(module 0\n(line 10\n(plain)\n)\n(line 256\n(plain)\n)\n)\n" } ∷
    record { saved = "2E9401080A0000646400013A3ACBA4343036413A8A25C00000019601203A2C7E20222235222022893A000001890220203A000001920289303A3A3A8B"; means = "(refused 33 60)\n" } ∷
    record { saved = "4EFD00012E002E222276302222833A8B2222A7373831838389000100540020893834833A8D20302036333939392C0001000D038B67A7824A314B4C30334C4B2C4342355A323A8D36303237347B3A82435A352C49392C4B252C4B25D08300000000"; means = "(module 0\n(line 46\n(plain)\n(if\n(to 781)\n)\n)\n(line 84\n(goto 84)\n(gosub 63999)\n)\n(line 781\n(if\n(stmts\n(next plain J1 CB)\n(gosub 60274)\n(next plain CZ I9 K% K%)\n)\n)\n)\n)\n" } ∷
    record { saved = "0108130805002C31302C363430303061914189001F08FFF936333939392520000000"; means = "(module 0\n(line 5\n(plain)\n)\n(line 63999\n(plain)\n)\n)\n" } ∷
    record { saved = "0108070800FA3A004100"; means = "(refused 35 4)\n" } ∷
    record { saved = "01080C0861178A2035393835000000"; means = "(module 0\n(line 5985\n(run 5985)\n)\n)\n" } ∷
    record { saved = "B09E0001459A3A3A8FA783204189000100B0B7208930203A8B20A733203934393320418F3164000000B858EEB4C7"; means = "(module 0\n(line 39493\n(plain)\n)\n(line 47024\n(goto 0)\n(if\n(to 39493)\n)\n)\n)\n" } ∷
    record { saved = "0108170809008141363430303036343030203634303091002508000122313080202591418D002E080A00A78120A4000000"; means = "(refused 4 2)\n" } ∷
    record { saved = "010834089D0382515934413A81493831325836593725B230A458AC323A8B4124B2225448454E3A22A78158B231A4313A3A823A90000000"; means = "(module 0\n(line 925\n(next plain QY)\n(for I8% static)\n(if\n(stmts\n(for X static)\n(next plain *)\n(stop)\n)\n)\n)\n)\n" } ∷
    record { saved = "B7EA6464BB00203A00FFFF51018A3A3A20CBA4333320376C2241A73A22802422A7832C223A893333373A3A3A208B8D913020A7900001081602203A9189353320342C3138372C30353334B42E3A8B20308B7E8289302030303533203422898922830000008F907C4535"; means = "(module 0\n(line 187\n)\n(line 337\n(run)\n(goto 337)\n(goto 337)\n(if\n(stmts\n(stop)\n)\n)\n)\n(line 534\n(ongoto 534 187 534)\n(if\n(to 534)\n)\n)\n)\n" } ∷
    record { saved = "0108080805009020000000"; means = "(module 0\n(line 5\n(stop)\n)\n)\n" } ∷
    record { saved = "0321000100008A303AAD2E8D3A8A7114D5334400646408003A8B2041B12222A4A730313182228983220001000900200000010A0091E78D30202C302C323420323020352C382C30433A3A8A3A9C160001000B008BC328A73A3A000000"; means = "(module 0\n(line 0\n(run 0)\n(plain)\n(run)\n)\n(line 8\n(if\n(to 11)\n)\n)\n(line 9\n)\n(line 10\n(ongosub 0 0 24205 8 0)\n(run)\n(clr)\n)\n(line 11\n(if\n(stmts\n)\n)\n)\n)\n" } ∷
    record { saved = "01080708090099001608FFF925648A2C3B8D91418D90001D0800FACB61000000"; means = "(refused 34 13)\n" } ∷
    record { saved = "01080808D19C3A000000"; means = "(module 0\n(line 40145\n)\n)\n" } ∷
    record { saved = "010819080100208A8520FC832C31203A8BCB2E20A72033203A002508030020308320A78F20000000"; means = "(module 0\n(line 1\n(run)\n(if\n(to 3)\n)\n)\n(line 3\n(plain)\n)\n)\n" } ∷
    record { saved = "01082D086100812059433951B23020A42058AC323A8B20C82841242C3129B2C72833342920CB20A42039373A99000000"; means = "(module 0\n(line 97\n(for YC static)\n(if\n(to 97)\n)\n)\n)\n" } ∷
    record { saved = "01081008FFF98D828B41A7893130244000160800FA20000000"; means = "(refused 35 7)\n" } ∷
    record { saved = "0108120805008F223634303030A442313A410019080A008A2C000000"; means = "(module 0\n(line 5\n(plain)\n)\n(line 10\n(run)\n)\n)\n" } ∷
    record { saved = "C30801003B5481494B4C253A3AA7893A300000006401"; means = "(module 0\n(line 21563\n(for IK% static)\n(plain)\n(plain)\n)\n)\n" } ∷
    record { saved = "010808080001836100140800018B418983CBA43A000000"; means = "(refused 35 16)\n" } ∷
    record { saved = "01081B0800013B5B3B6164CBA4288F2C2C3B645B6431319C8E5B5A00240800FA618F8041000000"; means = "(refused 34 10)\n" } ∷
    record { saved = "3C820100EFC18244312C5942345244A42220893A22220120FF2230228F22000000"; means = "(module 0\n(line 49647\n(next plain D1 YB)\n)\n)\n" } ∷
    record { saved = "01080A08050041C13039002608000191418D3A8A8E2EA740243A838F42318B8B912E5B0139C1004308FFF98B41898241B29C2C363339393991418D9141898330814140000000"; means = "(refused 35 18)\n" } ∷
    record { saved = "01081A08E70184312C41243A8A3A83312C22413A42222C52454D0028084C028D20303A9C203A8A20002F0833039C200000"; means = "(refused 33 49)\n" } ∷
    record { saved = "0FB10108070089303A81583A8BA73A824130565149242C4C24418D3A8A3030303238363838220164A722228F2283222200FFFF09009C3A8E3A8E8320892089203A8B2029A7203A000000"; means = "(module 0\n(line 7\n(goto 0)\n(for X static)\n(if\n(stmts\n(next plain A0$ L$)\n(run 28688)\n)\n)\n)\n(line 9\n(clr)\n(return)\n(return)\n(if\n(stmts\n)\n)\n)\n)\n" } ∷
    record { saved = "01080D0870018A203231353735003508380390203A8B20C82841242C3129B2C72833342920A720812043B24120A4204220A920AB31000000"; means = "(module 0\n(line 368\n(run 21575)\n)\n(line 824\n(stop)\n(if\n(stmts\n(for C static)\n)\n)\n)\n)\n" } ∷
    record { saved = "01080808FC028E20000000"; means = "(module 0\n(line 764\n(return)\n)\n)\n" } ∷
    record { saved = "01082A080A008B2C3BCBA4804231822C209141892C9981414136343030308F2291418D81408E36343030003008FFF9C1000000"; means = "(refused 35 11)\n" } ∷
    record { saved = "01080D08FFF92C2C"; means = "(refused 33 8)\n" } ∷
    record { saved = "5E5D000108000064640A008B2222A78B8D25A73130000000"; means = "(module 0\n(line 8\n)\n(line 10\n(if\n(stmts\n(if\n(to 10)\n)\n)\n)\n)\n)\n" } ∷
    record { saved = "01081008450081204CB23120A4203130002B08BF009C203A9C203A4124B222474F544F2031303A22AA42240048086B028A2032353833353A8120433424B24120A4204220A920AB31006A08CF028E203A8A203A8B2041B23120A720992022544F3A20223B41243A8A2030007108DF039C20000000"; means = "(module 0\n(line 69\n(for L static)\n)\n(line 191\n(clr)\n(clr)\n(plain)\n)\n(line 619\n(run 25835)\n(for C4$ static)\n)\n(line 719\n(return)\n(run)\n(if\n(stmts\n(plain)\n(run 0)\n)\n)\n)\n(line 991\n(clr)\n)\n)\n" } ∷
    record { saved = "01081B085A0081204139B23120A42031303A822044303435393A99002B08CB029C3A824132382C43413639000000"; means = "(module 0\n(line 90\n(for A9 static)\n(next plain D0)\n(plain)\n)\n(line 715\n(clr)\n(next plain A2 CA)\n)\n)\n" } ∷
    []

right-table : T (right table)
unfolding opened right table
right-table = tt
