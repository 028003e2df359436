-- What has the same bytes summed was meant, and what an id names was.
use Rattle.std.proofs.Common.{◌≡◌, ◌∙◌, ◌<◌, ℕ, Bool, true, false, cond, List, [], ◌∷◌, ◌++◌, filter, length, take, refl, sym, ap, subst, append-nil, arith, inl, inr}
use Rattle.std.specs.Prelude.{Option, None, Some, nat_le}
use Rattle.std.specs.List.{AllByRecursion}
use Rattle.std.proofs.lemmas.List.{length-take, take_all}
use Rattle.std.proofs.lemmas.Bool.{ltb-true}
use Rattle.org_ids.specs.Laws.{IsMeant, NoStrangerFits, Placed, found, heading_sum, is_repeated, name_of, named, only, summed}
use Rattle.org_ids.specs.Letters.{id_length, id_of, stands_for}
use Rattle.org_ids.specs.Names.{NamedBy, is_whole, kept_name, spelled, text_part}
use Rattle.org_ids.proofs.MarkLemmas.{name_signed, no_text, texts_tell}
use Rattle.org_ids.proofs.NameLemmas.{IsName, has_name, spelled_tells}

-- a name that is whole is all that is spelled
pub whole_is : (bytes : List ℕ) → is_whole (take 512 bytes) ≡ true → take 512 bytes ≡ bytes
whole_is bytes h =
    let short : length (take 512 bytes) < 512 = ltb-true _ _ h in
    let long : length bytes < 512 = omega (arith, short, length-take 512 bytes) in
    take_all 512 bytes (omega (arith, long))

-- what is summed of two headings: their names, whether these are whole and repeated, and texts
record Meant (n m : NamedBy) (w v r q : Bool) (x y : List ℕ) : Type 0 where
  begun : kept_name n ≡ kept_name m
  repeated : r ≡ true → y ≡ x
  long : w ≡ false → y ≡ x

told : (n m : NamedBy) (w v r q : Bool) (x y : List ℕ) → IsName n → IsName m →
    kept_name n ++ text_part w r x ≡ kept_name m ++ text_part v q y → Meant n m w v r q x y
told n m true true false false x y a b e = record {
  begun = sym (append-nil (kept_name n)) ∙ e ∙ append-nil (kept_name m);
  repeated = λ h. absurd cc;
  long = λ h. absurd cc;
}
told n m true true true false x y a b e = absurd (no_text 61 x (kept_name n) (kept_name m) (inl refl) (name_signed m b) (e ∙ append-nil (kept_name m)))
told n m true true false true x y a b e = absurd (no_text 61 y (kept_name m) (kept_name n) (inl refl) (name_signed n a) (sym e ∙ append-nil (kept_name n)))
told n m true true true true x y a b e =
    let same = texts_tell 61 61 x y (kept_name n) (kept_name m) (inl refl) (inl refl) (name_signed n a) (name_signed m b) e in
    record { begun = same.names; repeated = λ _. sym same.texts; long = λ _. sym same.texts }
told n m false true r true x y a b e =
    let same = texts_tell 43 61 x y (kept_name n) (kept_name m) (inr refl) (inl refl) (name_signed n a) (name_signed m b) e in
    let other : ◌≡◌ {A = ℕ} 43 61 = same.signs in
    absurd (omega (arith, other))
told n m false true r false x y a b e = absurd (no_text 43 x (kept_name n) (kept_name m) (inr refl) (name_signed m b) (e ∙ append-nil (kept_name m)))
told n m false false r q x y a b e =
    let same = texts_tell 43 43 x y (kept_name n) (kept_name m) (inr refl) (inr refl) (name_signed n a) (name_signed m b) e in
    record { begun = same.names; repeated = λ _. sym same.texts; long = λ _. sym same.texts }
told n m true false false q x y a b e = absurd (no_text 43 y (kept_name m) (kept_name n) (inr refl) (name_signed n a) (sym e ∙ append-nil (kept_name n)))
told n m true false true q x y a b e =
    let same = texts_tell 61 43 x y (kept_name n) (kept_name m) (inl refl) (inr refl) (name_signed n a) (name_signed m b) e in
    let other : ◌≡◌ {A = ℕ} 61 43 = same.signs in
    absurd (omega (arith, other))

whole_same : (n m : NamedBy) → IsName n → IsName m → kept_name n ≡ kept_name m → is_whole (kept_name n) ≡ true → m ≡ n
whole_same n m a b e h =
    let other : is_whole (kept_name m) ≡ true = sym (ap is_whole e) ∙ h in
    spelled_tells m n b a (sym (whole_is (spelled m) other) ∙ sym e ∙ whole_is (spelled n) h)

pub summed_are_meant : (listed now : Placed) → summed listed ≡ summed now → IsMeant listed now
summed_are_meant listed now e =
    let n = name_of listed in
    let m = name_of now in
    let is = told n m (is_whole (kept_name n)) (is_whole (kept_name m)) (is_repeated listed) (is_repeated now) listed.section now.section (has_name listed) (has_name now) e in
    record {
      named = λ h. whole_same n m (has_name listed) (has_name now) is.begun h;
      begun = sym is.begun;
      repeated = is.repeated;
      long = is.long;
    }

-- what is found alone passes the test, and so has what all have that do
found_step : (p : Placed → Bool) (P : Placed → Type 0) (h now : Placed) (rest : List Placed) (t : Bool) → p h ≡ t → (p h ≡ true → P h) → (only rest ≡ Some now → P now) →
    only (cond t (h ∷ rest) rest) ≡ Some now → P now
found_step p P h now rest false fails own more o = more o
found_step p P h now [] true passes own more o =
    let same : h ≡ now = cc in
    subst P same (own passes)
found_step p P h now (other ∷ rest) true passes own more o = absurd cc

found_alone : (p : Placed → Bool) (P : Placed → Type 0) (hs : List Placed) (now : Placed) → AllByRecursion (λ (it : Placed). p it ≡ true → P it) hs →
    only (filter p hs) ≡ Some now → P now
found_alone p P [] now all e = absurd cc
found_alone p P (h ∷ hs) now all e = found_step p P h now (filter p hs) (p h) refl all.0 (λ o. found_alone p P hs now all.1 o) e

named_in_time : (t : Bool) (o : Option Placed) (now : Placed) → cond t o None ≡ Some now → o ≡ Some now
named_in_time true o now e = e
named_in_time false o now e = absurd cc

pub ids_name_what_was_listed : (listed now : Placed) (headings : List Placed) (n : ℕ) →
    NoStrangerFits listed headings (id_of n (heading_sum listed)) → named headings (id_of n (heading_sum listed)) ≡ Some now → IsMeant listed now
ids_name_what_was_listed listed now headings n premise e =
    let word : List ℕ = id_of n (heading_sum listed) in
    let alone : only (found headings word) ≡ Some now = named_in_time (nat_le (id_length (length headings)) (length word)) (only (found headings word)) now e in
    summed_are_meant listed now (found_alone (λ (it : Placed). stands_for word (heading_sum it)) (λ (it : Placed). summed listed ≡ summed it) headings now premise alone)
