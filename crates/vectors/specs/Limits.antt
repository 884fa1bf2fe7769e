-- Texts at the limits of document 01, built and read by the definition: what is refused, and what is not. Assumes nothing.
use Rattle.std.specs.Prelude.{ℕ, zero, suc, List, [], ◌∷◌, ◌++◌, Bool, true, false, ◌&&◌, T, eqb}
use Rattle.listings.specs.Bytes.{bytes, decimal}
use Rattle.listings.specs.Read.{Answer, listing, refusal, read}
use Rattle.vectors.specs.Vector.{opened}

times : ℕ → List ℕ → List ℕ
times zero l = []
times (suc n) l = l ++ times n l

-- n lines without statements, the first with number m
lines : ℕ → ℕ → List ℕ
lines zero m = []
lines (suc n) m = bytes "(line " ++ decimal m ++ bytes "\n)\n" ++ lines n (suc m)

refused_by_lem : ℕ → ℕ → Answer → Bool
refused_by_lem n p (listing L) = false
refused_by_lem n p (refusal m q) = eqb n m && eqb p q

accepted : Answer → Bool
accepted (listing L) = true
accepted (refusal n p) = false

-- one line of these statements
one : List ℕ → List ℕ
one s = bytes "(module 0\n(line 10\n" ++ s ++ bytes ")\n)\n"

-- 1,024 and 1,025 lines
lines_limit : T (accepted (read (bytes "(module 0\n" ++ lines 1024 0 ++ bytes ")\n")) && refused_by_lem 5 2049 (read (bytes "(module 0\n" ++ lines 1025 0 ++ bytes ")\n")))
unfolding opened times lines refused_by_lem accepted
lines_limit = tt

-- 4,096 and 4,097 statements
stmts_limit : T (accepted (read (one (times 4096 (bytes "(stop)\n")))) && refused_by_lem 6 4098 (read (one (times 4097 (bytes "(stop)\n")))))
unfolding opened times refused_by_lem accepted one
stmts_limit = tt

-- depth 16 and 17
depth_limit : T (
    accepted (read (one (times 16 (bytes "(if\n(stmts\n") ++ bytes "(stop)\n" ++ times 16 (bytes ")\n)\n"))))
    && refused_by_lem 7 36 (read (one (times 17 (bytes "(if\n(stmts\n") ++ bytes "(stop)\n" ++ times 17 (bytes ")\n)\n")))))
unfolding opened times refused_by_lem accepted one
depth_limit = tt

-- 64 and 65 numbers, 64 and 65 slots
count_limit : T (
    accepted (read (one (bytes "(ongoto" ++ times 64 (bytes " 10") ++ bytes ")\n(next plain" ++ times 64 (bytes " *") ++ bytes ")\n")))
    && refused_by_lem 8 2 (read (one (bytes "(ongoto" ++ times 65 (bytes " 10") ++ bytes ")\n")))
    && refused_by_lem 8 2 (read (one (bytes "(next plain" ++ times 65 (bytes " *") ++ bytes ")\n"))))
unfolding opened times refused_by_lem accepted one
count_limit = tt

-- 65,536 bytes (refused for what they say) and 65,537
bytes_limit : T (refused_by_lem 2 1 (read (bytes "(module 0\n" ++ times 65526 (41 ∷ []))) && refused_by_lem 1 0 (read (bytes "(module 0\n" ++ times 65527 (41 ∷ []))))
unfolding opened times refused_by_lem
bytes_limit = tt
