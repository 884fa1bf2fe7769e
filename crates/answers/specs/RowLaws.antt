-- How the rows of answers are put together. Assumes nothing.
use Rattle.std.specs.Prelude.{ℕ, ◌≡◌, refl, List, [], ◌∷◌, ◌++◌}
use Rattle.std.proofs.Common.{sym, append_assoc, append-nil}
use Rattle.listings.specs.Bytes.{bytes, decimal}
use Rattle.graph.specs.Lists.{each}
use Rattle.graph.specs.Print.{spaced}
use Rattle.formatting.specs.Pages.{Wrote, wrote_both, wrote_is}
use Rattle.formatting.specs.declared.page.Page.{Page}
use Rattle.answers.specs.Flowask.{list_row, stmt_row}

pub wrote_list : {p q s : Page} (w l : List ℕ) → Wrote p q (w ++ spaced l) → Wrote q s (bytes ")\n") → Wrote p s (list_row w l)
unfolding list_row
wrote_list w l a b = wrote_is (simp append_assoc) (wrote_both a b)

spaced-one : (i : ℕ) → 32 ∷ decimal i ≡ spaced (i ∷ [])
unfolding spaced each
spaced-one i = sym (append-nil (32 ∷ decimal i))

pub wrote_one : {p q s t : Page} (w : List ℕ) (i : ℕ) → Wrote p q w → Wrote q s (32 ∷ decimal i) → Wrote s t (bytes ")\n") → Wrote p t (list_row w (i ∷ []))
wrote_one w i a b c = wrote_list w (i ∷ []) (wrote_both a (wrote_is (spaced-one i) b)) c

pub no_entry : bytes "(entry)\n" ≡ list_row (bytes "(entry") []
unfolding bytes list_row spaced each
no_entry = refl

pub wrote_stmt : {p q s t u v : Page} (i : ℕ) (w : List ℕ) → Wrote p q (bytes "(statement") → Wrote q s (32 ∷ decimal i) → Wrote s t (32 ∷ []) → Wrote t u w → Wrote u v (bytes ")\n")
    → Wrote p v (stmt_row i w)
unfolding stmt_row
wrote_stmt i w a b c d e = wrote_both (wrote_both (wrote_both a (wrote_is (spaced-one i) b)) (wrote_both c d)) e
