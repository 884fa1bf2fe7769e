-- What reading answers, by the definition's numbers: document 01's number and place for each refusal. Assumes nothing.
use Rattle.std.specs.Prelude.{◌≡◌, refl, ℕ, Result, Ok, Err}
use Rattle.std.proofs.Common.{sym, ap}
use Rattle.listings.specs.Listing.{Listing, total, count}
use Rattle.listings.specs.Read.{Answer, listing, refusal}
use Rattle.layout.specs.Refusals.{number_of}
use Rattle.layout.specs.declared.refusals.Refusal.{Refusal}
use Rattle.reader.specs.declared.listing.Accepted.{Accepted}

-- a number and a place
pub record Numbered : Type 0 where
  pub number : ℕ
  pub place : ℕ

-- the code's answer with the number of its reason
abbrev pub by_number : Result Accepted Refusal → Result Accepted Numbered
by_number (Ok a) = Ok a
by_number (Err r) = Err (record { number = number_of r.reason; place = r.place })

-- of a listing its handlers and how many lines and statements it has
unfoldable pub listed_of : Answer → Result Accepted Numbered
listed_of (listing L) = Ok (record { handlers = L.handlers; lines = count L.lines; stmts = total L.lines })
listed_of (refusal n p) = Err (record { number = n; place = p })

-- by the code's answer
pub was_accepted : (b : Answer) (a : Accepted) → Ok a ≡ listed_of b → (L : Listing) × (b ≡ listing L) × (a.handlers ≡ L.handlers) × (a.lines ≡ count L.lines) × (a.stmts ≡ total L.lines)
unfolding listed_of
was_accepted (listing L) a e =
    let q : a ≡ record { handlers = L.handlers; lines = count L.lines; stmts = total L.lines } = cc in
    (L, refl, ap (λ (z : Accepted). z.handlers) q, ap (λ (z : Accepted). z.lines) q, ap (λ (z : Accepted). z.stmts) q)
was_accepted (refusal k p) a e = cc

pub was_refused : (b : Answer) (r : Refusal) → by_number (Err r) ≡ listed_of b → b ≡ refusal (number_of r.reason) r.place
unfolding listed_of
was_refused (listing L) r e = cc
was_refused (refusal k i) r e =
    let q : ◌≡◌ {A = Numbered} (record { number = number_of r.reason; place = r.place }) (record { number = k; place = i }) = cc in
    let x : k ≡ number_of r.reason = sym (ap (λ (z : Numbered). z.number) q) in
    let y : i ≡ r.place = sym (ap (λ (z : Numbered). z.place) q) in
    cc
