-- Runs are not empty: a call and back in C12, and an ON GOSUB that calls itself. Assumes nothing.
use Rattle.std.specs.Prelude.{ℕ, List, [], ◌∷◌, map, Bool, true, false, ◌&&◌, T}
use Prim.Native.String.{String}
use Rattle.listings.specs.Bytes.{bytes, same}
use Rattle.listings.specs.Read.{Answer, listing, refusal}
use Rattle.listings.specs.Cut.{meant}
use Rattle.graph.specs.Run.{State, run}
use Rattle.graph.specs.Opened.{opened}

-- the nodes that a run of the text from node i lands on, with these choices
visited : Answer → ℕ → List ℕ → List ℕ
visited (listing L) i cs = map (λ (d : State × State). d.1.node) (run L i cs)
visited (refusal n p) i cs = []

c12 : String
c12 = "(module 0\n(line 10\n(gosub 100)\n(plain)\n)\n(line 20\n(stop)\n)\n(line 100\n(if\n(to 20)\n)\n(return)\n)\n)\n"

again : String
again = "(module 0\n(line 10\n(ongosub 10 20)\n(stop)\n)\n(line 20\n(return)\n)\n)\n"

runs : T (
    same (visited (meant (bytes c12)) 0 (0 ∷ 1 ∷ 0 ∷ 0 ∷ 0 ∷ [])) (3 ∷ 4 ∷ 1 ∷ 2 ∷ [])
    && same (visited (meant (bytes again)) 0 (0 ∷ 0 ∷ 1 ∷ 0 ∷ 2 ∷ [])) (0 ∷ 0 ∷ 2 ∷ 1 ∷ []))
unfolding opened visited c12 again
runs = tt
