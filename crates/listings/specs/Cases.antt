-- What is read of some texts, computed: document 01's rules of rows and refusals, with the numbers and places that they give. Assumes nothing.
-- All is `pub`, and the name comes before those of the laws: so these are checked first, and a wrong rule is refused by its case.
use Rattle.std.specs.Prelude.{ℕ, zero, suc, List, [], ◌∷◌, ◌++◌, Bool, true, ◌&&◌, T}
use Prim.Native.String.{String}
use Rattle.listings.specs.Bytes.{bytes, same}
use Rattle.listings.specs.Read.{Answer, listing, refusal, read}
use Rattle.listings.specs.Opened.{opened}

-- a text, and the number and the place of its refusal: 0 and 0 where it is accepted
pub record Case : Type 0 where
  pub text : List ℕ
  pub number : ℕ
  pub place : ℕ

unfoldable pub answered : Answer → List ℕ
answered (listing L) = 0 ∷ 0 ∷ []
answered (refusal n p) = n ∷ p ∷ []

unfoldable pub right : List Case → Bool
right [] = true
right (c ∷ cs) = same (answered (read c.text)) (c.number ∷ c.place ∷ []) && right cs

unfoldable pub whole : String → ℕ → ℕ → Case
whole s n p = record { text = bytes s; number = n; place = p }

-- a row of statements, accepted or refused where it stands: it is the third
unfoldable pub taken : String → Case
taken s = record { text = bytes "(module 0\n(line 10\n" ++ bytes s ++ bytes "\n)\n)\n"; number = 0; place = 0 }

unfoldable pub refused : ℕ → String → Case
refused n s = record { text = bytes "(module 0\n(line 10\n" ++ bytes s ++ bytes "\n)\n)\n"; number = n; place = 2 }

-- k times
unfoldable pub times : ℕ → List ℕ → List ℕ
times zero l = []
times (suc k) l = l ++ times k l

-- 64 numbers, and what stands behind them
unfoldable pub numbers : String → List ℕ
numbers s = bytes "(module 0\n(line 10\n(ongoto" ++ times 64 (bytes " 0") ++ bytes s ++ bytes ")\n)\n)\n"

-- a statement in k IFs
unfoldable pub deep : ℕ → List ℕ
deep k = bytes "(module 0\n(line 10\n" ++ times k (bytes "(if\n(stmts\n") ++ bytes "(plain)\n" ++ times k (bytes ")\n)\n") ++ bytes ")\n)\n"

unfoldable pub cases : List Case
cases =
    -- "Numbers are decimal without leading zeros, 0 to 65535"; "a word not all digits where a number is due is 2"
    taken "(goto 0)" ∷ taken "(goto 65535)"
    ∷ refused 3 "(goto 65536)" ∷ refused 3 "(goto 1234567890123456789012345678901234567890)" ∷ refused 3 "(goto 007)" ∷ refused 3 "(goto 00)"
    ∷ refused 2 "(goto 1x)" ∷ refused 2 "(goto A)" ∷ refused 2 "(goto -1)"
    -- "A name is a capital letter, up to 7 more capitals or digits, then nothing, `%` or `$`"
    ∷ taken "(for A static)" ∷ taken "(for ABCDEFG8% static)"
    ∷ refused 3 "(for ABCDEFGHI static)" ∷ refused 3 "(for A%$ static)" ∷ refused 3 "(for 1 static)" ∷ refused 3 "(for * static)" ∷ refused 3 "(next plain a)" ∷ refused 3 "(next plain **)"
    -- "T `static`, `framed` or `dispatched`", "M `plain` or `orphan`, 0 to 64 slots"
    ∷ taken "(next plain)" ∷ taken "(next orphan A * B$)" ∷ refused 2 "(for A bogus)" ∷ refused 2 "(for A)" ∷ refused 2 "(next A)" ∷ refused 2 "(next)"
    -- "one space between words"
    ∷ taken "(ongoto)" ∷ refused 2 "(ongoto )" ∷ refused 2 "(goto  1)" ∷ refused 2 " (goto 1)" ∷ refused 2 "(goto 1) "
    -- "within it, the lowest number": the whole row is judged for 2 before 3 is given
    ∷ refused 2 "(ongoto 01 x)" ∷ refused 2 "(for 1 bogus)" ∷ refused 2 "(goto 007 1)" ∷ refused 2 "(return 007)" ∷ refused 2 "(next plain a"
    -- "8 a 65th number or slot"
    ∷ record { text = numbers ""; number = 0; place = 0 } ∷ record { text = numbers " 0"; number = 8; place = 2 }
    ∷ record { text = numbers " 007"; number = 3; place = 2 } ∷ record { text = numbers " x"; number = 2; place = 2 }
    -- "`(if` holds one branch, `(ifelse` two, `(rcomp` one or two"
    ∷ taken "(rcomp\n(to 10)\n)" ∷ taken "(ifelse\n(to 10)\n(stmts\n)\n)"
    ∷ whole "(module 0\n(line 10\n(if\n)\n" 2 3 ∷ whole "(module 0\n(line 10\n(ifelse\n(to 10)\n)\n" 2 4 ∷ whole "(module 0\n(line 10\n(if\n(to 10)\n(to 010)\n" 2 4 ∷ whole "(module 0\n(line 10\n(if\n(to 010)\n" 3 3
    -- "depth 16 is accepted, 17 refused"
    ∷ record { text = deep 16; number = 0; place = 0 } ∷ record { text = deep 17; number = 7; place = 36 }
    -- "4 line number not above the last"
    ∷ whole "(module 0\n(line 0\n)\n(line 1\n)\n)\n" 0 0 ∷ whole "(module 0\n(line 10\n)\n(line 10\n)\n)\n" 4 3 ∷ whole "(module 0\n(line 10\n)\n(line 9\n)\n)\n" 4 3
    -- "an H other than 0 or 1" is 2
    ∷ whole "(module 1\n)\n" 0 0 ∷ whole "(module 2\n)\n" 2 0 ∷ whole "(module 01\n)\n" 2 0
    -- "or the text ends early (place: the row due, or the one not ended by byte 10)"
    ∷ whole "" 2 0 ∷ whole "(module 0\n" 2 1 ∷ whole "(module 0\n)" 2 1 ∷ whole "(module 0\n)\n\n" 2 2
    ∷ []

pub computed : T (right cases)
unfolding opened answered right whole taken refused times numbers deep cases
computed = tt
