-- FOR's tier and NEXT's mark, as the code has them. Assumes nothing.
use Rattle.std.specs.Prelude.{ℕ, ◌≡◌, refl, List, length, get_or, Bool, true, false, Option, Some, None}
use Rattle.std.proofs.Common.{sym, ap}
use Rattle.std.proofs.lemmas.Slice.Eq.{text_from_reads}
use Rattle.listings.specs.Bytes.{bytes, same}
use Rattle.listings.specs.Listing.{static, framed, dispatched, orphan}
use Rattle.listings.specs.Listing as listing
use Rattle.listings.specs.Rows.{Parse, malformed, invalid, parsed, lookup, or_malformed, tiers, parse_tier, marks, parse_mark}
use Rattle.listing_laws.specs.WordText.{same_equal}
use Rattle.tokens.specs.declared.tiers.Tier.{Tier}
use Rattle.tokens.specs.declared.tiers.Tier.TheVariants as tier
use Rattle.tokens.specs.declared.tiers.Mark.{Mark}
use Rattle.tokens.specs.declared.tiers.Mark.TheVariants as mark

abbrev pub tier_as : listing.Tier → Tier
tier_as static = tier.Static
tier_as framed = tier.Framed
tier_as dispatched = tier.Dispatched

abbrev pub mark_as : listing.Mark → Mark
mark_as listing.Mark.plain = mark.Plain
mark_as orphan = mark.Orphan

-- what was read, if it is a tier
abbrev pub tier_found : Parse listing.Tier → Option Tier
tier_found malformed = None
tier_found invalid = None
tier_found (parsed t) = Some (tier_as t)

abbrev pub mark_found : Parse listing.Mark → Option Mark
mark_found malformed = None
mark_found invalid = None
mark_found (parsed m) = Some (mark_as m)

-- ---- a word by its bytes

other : (p w : List ℕ) → (w ≡ p → ⊥) → same p w ≡ false
other p w h = go (same p w) refl
  where
    go : (t : Bool) → same p w ≡ t → t ≡ false
    go true e = absurd (h (sym (same_equal p w e)))
    go false e = refl

byte : (k : ℕ) {v w : List ℕ} → v ≡ w → get_or v k 0 ≡ get_or w k 0
byte k e = ap (λ (z : List ℕ). get_or z k 0) e

pub tier_static : (w : List ℕ) → length w ≡ 6 → get_or w 0 0 ≡ 115 → get_or w 1 0 ≡ 116 → get_or w 2 0 ≡ 97 → get_or w 3 0 ≡ 116 → get_or w 4 0 ≡ 105 → get_or w 5 0 ≡ 99 → Some tier.Static ≡ tier_found (parse_tier w)
unfolding bytes lookup or_malformed parse_tier same tiers
tier_static w n e0 e1 e2 e3 e4 e5 = rw (text_from_reads w (bytes "static") n (e0, (e1, (e2, (e3, (e4, (e5, tt))))))) refl

pub tier_framed : (w : List ℕ) → length w ≡ 6 → get_or w 0 0 ≡ 102 → get_or w 1 0 ≡ 114 → get_or w 2 0 ≡ 97 → get_or w 3 0 ≡ 109 → get_or w 4 0 ≡ 101 → get_or w 5 0 ≡ 100 → Some tier.Framed ≡ tier_found (parse_tier w)
unfolding bytes lookup or_malformed parse_tier same tiers
tier_framed w n e0 e1 e2 e3 e4 e5 = rw (text_from_reads w (bytes "framed") n (e0, (e1, (e2, (e3, (e4, (e5, tt))))))) refl

pub tier_dispatched : (w : List ℕ) → length w ≡ 10 → get_or w 0 0 ≡ 100 → get_or w 1 0 ≡ 105 → get_or w 2 0 ≡ 115 → get_or w 3 0 ≡ 112 → get_or w 4 0 ≡ 97 → get_or w 5 0 ≡ 116 → get_or w 6 0 ≡ 99 → get_or w 7 0 ≡ 104 → get_or w 8 0 ≡ 101 → get_or w 9 0 ≡ 100 → Some tier.Dispatched ≡ tier_found (parse_tier w)
unfolding bytes lookup or_malformed parse_tier same tiers
tier_dispatched w n e0 e1 e2 e3 e4 e5 e6 e7 e8 e9 = rw (text_from_reads w (bytes "dispatched") n (e0, (e1, (e2, (e3, (e4, (e5, (e6, (e7, (e8, (e9, tt))))))))))) refl

pub mark_plain : (w : List ℕ) → length w ≡ 5 → get_or w 0 0 ≡ 112 → get_or w 1 0 ≡ 108 → get_or w 2 0 ≡ 97 → get_or w 3 0 ≡ 105 → get_or w 4 0 ≡ 110 → Some mark.Plain ≡ mark_found (parse_mark w)
unfolding bytes lookup marks or_malformed parse_mark same
mark_plain w n e0 e1 e2 e3 e4 = rw (text_from_reads w (bytes "plain") n (e0, (e1, (e2, (e3, (e4, tt)))))) refl

pub mark_orphan : (w : List ℕ) → length w ≡ 6 → get_or w 0 0 ≡ 111 → get_or w 1 0 ≡ 114 → get_or w 2 0 ≡ 112 → get_or w 3 0 ≡ 104 → get_or w 4 0 ≡ 97 → get_or w 5 0 ≡ 110 → Some mark.Orphan ≡ mark_found (parse_mark w)
unfolding bytes lookup marks or_malformed parse_mark same
mark_orphan w n e0 e1 e2 e3 e4 e5 = rw (text_from_reads w (bytes "orphan") n (e0, (e1, (e2, (e3, (e4, (e5, tt))))))) refl

pub no_tier : (w : List ℕ) → (length w ≡ 6 → get_or w 0 0 ≡ 115 → get_or w 1 0 ≡ 116 → get_or w 2 0 ≡ 97 → get_or w 3 0 ≡ 116 → get_or w 4 0 ≡ 105 → get_or w 5 0 ≡ 99 → ⊥) → (length w ≡ 6 → get_or w 0 0 ≡ 102 → get_or w 1 0 ≡ 114 → get_or w 2 0 ≡ 97 → get_or w 3 0 ≡ 109 → get_or w 4 0 ≡ 101 → get_or w 5 0 ≡ 100 → ⊥) → (length w ≡ 10 → get_or w 0 0 ≡ 100 → get_or w 1 0 ≡ 105 → get_or w 2 0 ≡ 115 → get_or w 3 0 ≡ 112 → get_or w 4 0 ≡ 97 → get_or w 5 0 ≡ 116 → get_or w 6 0 ≡ 99 → get_or w 7 0 ≡ 104 → get_or w 8 0 ≡ 101 → get_or w 9 0 ≡ 100 → ⊥) → None ≡ tier_found (parse_tier w)
unfolding bytes lookup or_malformed parse_tier tiers
no_tier w h0 h1 h2 = rw (other (bytes "static") w (λ e. h0 (ap length e) (byte 0 e) (byte 1 e) (byte 2 e) (byte 3 e) (byte 4 e) (byte 5 e)), other (bytes "framed") w (λ e. h1 (ap length e) (byte 0 e) (byte 1 e) (byte 2 e) (byte 3 e) (byte 4 e) (byte 5 e)), other (bytes "dispatched") w (λ e. h2 (ap length e) (byte 0 e) (byte 1 e) (byte 2 e) (byte 3 e) (byte 4 e) (byte 5 e) (byte 6 e) (byte 7 e) (byte 8 e) (byte 9 e))) refl

pub no_mark : (w : List ℕ) → (length w ≡ 5 → get_or w 0 0 ≡ 112 → get_or w 1 0 ≡ 108 → get_or w 2 0 ≡ 97 → get_or w 3 0 ≡ 105 → get_or w 4 0 ≡ 110 → ⊥) → (length w ≡ 6 → get_or w 0 0 ≡ 111 → get_or w 1 0 ≡ 114 → get_or w 2 0 ≡ 112 → get_or w 3 0 ≡ 104 → get_or w 4 0 ≡ 97 → get_or w 5 0 ≡ 110 → ⊥) → None ≡ mark_found (parse_mark w)
unfolding bytes lookup marks or_malformed parse_mark
no_mark w h0 h1 = rw (other (bytes "plain") w (λ e. h0 (ap length e) (byte 0 e) (byte 1 e) (byte 2 e) (byte 3 e) (byte 4 e)), other (bytes "orphan") w (λ e. h1 (ap length e) (byte 0 e) (byte 1 e) (byte 2 e) (byte 3 e) (byte 4 e) (byte 5 e))) refl
