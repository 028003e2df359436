-- Properties of lines that are read one by one.
use Rattle.std.proofs.Common.{◌≡◌, ℕ, zero, suc, ◌+◌, List, [], ◌∷◌, drop, slice_get, add-one, Some, None, Option, refl, ap, sym, ◌∙◌}
use Rattle.std.specs.List.{filter_map}
use Rattle.std.specs.Option.{option_to_list}
use Rattle.org_base.specs.Properties.{Given, Property, with_all}
use Rattle.org_drawer.specs.Node.{given_of, with_line}

cut_at : (lines : List (List ℕ)) (i : ℕ) (l : List ℕ) → slice_get lines i ≡ Some l → drop i lines ≡ l ∷ drop (i + 1) lines
cut_at [] i l h = absurd cc
cut_at (x ∷ xs) zero l h = let same : x ≡ l = cc in ap (λ y. y ∷ xs) same
cut_at (x ∷ xs) (suc i) l h = rw add-one (rw add-one at (cut_at xs i l h))

with_one : (ps : List Property) (o : Option Given) (ls : List (List ℕ)) (l : List ℕ) → given_of l ≡ o →
    with_all (with_all ps (option_to_list o)) (filter_map given_of ls) ≡ with_all ps (filter_map given_of (l ∷ ls))
with_one ps None ls l e = rw e refl
with_one ps (Some g) ls l e = rw e refl

-- a line in front of others
pub line_in_front : (ps : List Property) (l : List ℕ) (ls : List (List ℕ)) → with_all (with_line ps l) (filter_map given_of ls) ≡ with_all ps (filter_map given_of (l ∷ ls))
line_in_front ps l ls = with_one ps (given_of l) ls l refl

-- one line more
pub one_line_more : (ps new all : List Property) (lines : List (List ℕ)) (i : ℕ) (l : List ℕ) → slice_get lines i ≡ Some l →
    new ≡ with_all ps (option_to_list (given_of l)) → with_all ps (filter_map given_of (drop i lines)) ≡ all →
    with_all new (filter_map given_of (drop (i + 1) lines)) ≡ all
one_line_more ps new all lines i l is e h =
    ap (λ qs. with_all qs (filter_map given_of (drop (i + 1) lines))) e
    ∙ (with_one ps (given_of l) (drop (i + 1) lines) l refl
    ∙ (ap (λ ls. with_all ps (filter_map given_of ls)) (sym (cut_at lines i l is)) ∙ h))
