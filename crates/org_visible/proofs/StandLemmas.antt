-- A text without characters that aren't shown as they are stands.
use Rattle.std.proofs.Common.{◌≡◌, ◌∙◌, ℕ, Bool, true, false, cond, not, List, [], ◌∷◌, ◌++◌, refl, sym, ap, subst, arith, append_assoc}
use Rattle.std.specs.Prelude.{◌&&◌, ◌||◌, ◌==◌}
use Rattle.std.proofs.lemmas.Bool.{and_parts}
use Rattle.std.proofs.lemmas.Bool.Decides.{nat_tests}
use Rattle.org_visible.specs.Clean.{IsClean, is_clean_behind, is_empty}
use Rattle.org_visible.specs.Laws.{CleanStands}
use Rattle.org_visible.specs.Unseen.{front_of, block_of, ends, front_bytes, is_control, is_first, next, place, waits}
use Rattle.org_visible.specs.Visible.{control, other, single, visible, visible_behind}
use Rattle.org_visible.specs.declared.front.Block.TheVariants.{Latin}
use Rattle.org_visible.specs.declared.front.Front.{Front}
use Rattle.org_visible.specs.declared.front.Front.TheVariants.{Empty, C2, E2, E280, E281, F3, F3A0, F3A080, F3A081}
use Rattle.org_visible.specs.declared.visible.Escape.TheVariants.{Caret}
use Rattle.org_visible.proofs.CleanLemmas.{anew, begins_none, not_empty}

-- what has come with a byte more
pub longer : (front : Front) (b : ℕ) → waits front b ≡ true → front_bytes (next front b) ≡ front_bytes front ++ b ∷ []
longer Empty b e = absurd cc
longer C2 b e = absurd cc
longer E2 b e = by (b == 128) (b == 129) refl refl e
  where
    by : (s t : Bool) → (b == 128) ≡ s → (b == 129) ≡ t → (s || t) ≡ true → front_bytes (cond s E280 (cond t E281 (front_of b))) ≡ 226 ∷ b ∷ []
    by true t is other e = let same : b ≡ 128 = grind (arith, nat_tests, is) in λ i. 226 ∷ sym same i ∷ []
    by false true is other e = let same : b ≡ 129 = grind (arith, nat_tests, other) in λ i. 226 ∷ sym same i ∷ []
    by false false is other e = absurd cc
longer E280 b e = absurd cc
longer E281 b e = absurd cc
longer F3 b e = let same : b ≡ 160 = grind (arith, nat_tests, e) in rw e (λ i. 243 ∷ sym same i ∷ [])
longer F3A0 b e = by (b == 128) (b == 129) refl refl e
  where
    by : (s t : Bool) → (b == 128) ≡ s → (b == 129) ≡ t → (s || t) ≡ true → front_bytes (cond s F3A080 (cond t F3A081 (front_of b))) ≡ 243 ∷ 160 ∷ b ∷ []
    by true t is other e = let same : b ≡ 128 = grind (arith, nat_tests, is) in λ i. 243 ∷ 160 ∷ sym same i ∷ []
    by false true is other e = let same : b ≡ 129 = grind (arith, nat_tests, other) in λ i. 243 ∷ 160 ∷ sym same i ∷ []
    by false false is other e = absurd cc
longer F3A080 b e = absurd cc
longer F3A081 b e = absurd cc

-- what has come with a first byte
pub front_of_bytes : (b : ℕ) → is_first b ≡ true → front_bytes (front_of b) ≡ b ∷ []
front_of_bytes b e = by (b == 194) (b == 226) (b == 243) refl refl refl e
  where
    by : (x y z : Bool) → (b == 194) ≡ x → (b == 226) ≡ y → (b == 243) ≡ z → (x || (y || z)) ≡ true → front_bytes (cond x C2 (cond y E2 (cond z F3 Empty))) ≡ b ∷ []
    by true y z p q r e = let same : b ≡ 194 = grind (arith, nat_tests, p) in λ i. sym same i ∷ []
    by false true z p q r e = let same : b ≡ 226 = grind (arith, nat_tests, q) in λ i. sym same i ∷ []
    by false false true p q r e = let same : b ≡ 243 = grind (arith, nat_tests, r) in λ i. sym same i ∷ []
    by false false false p q r e = absurd cc

not_true : (b : Bool) → not b ≡ true → b ≡ false
not_true true e = absurd cc
not_true false e = refl

-- a byte that begins anew, in front of what stands
single_stands : (b : ℕ) (bytes shown : List ℕ) → is_control b ≡ false → shown ≡ front_bytes (front_of b) ++ bytes → single Caret b ++ shown ≡ b ∷ bytes
single_stands b bytes shown own later = by (is_first b) refl
  where
    by : (t : Bool) → is_first b ≡ t → cond t [] (cond (is_control b) (control Caret Latin b) (other Caret b)) ++ shown ≡ b ∷ bytes
    by true e = later ∙ ap (λ s. s ++ bytes) (front_of_bytes b e)
    by false e = ap (λ t. cond t (control Caret Latin b) (b ∷ []) ++ shown) own ∙ ap (λ s. b ∷ s) (later ∙ ap (λ f. front_bytes f ++ bytes) (begins_none b e))

stands_at : (front : Front) (b : ℕ) (bytes : List ℕ) → is_control b ≡ false → ends front b ≡ false → visible_behind Caret (next front b) bytes ≡ front_bytes (next front b) ++ bytes →
    visible_behind Caret front (b ∷ bytes) ≡ front_bytes front ++ b ∷ bytes
stands_at front b bytes own ended later =
    ap (λ t. cond t (control Caret (block_of front) (place front b)) (cond (waits front b) [] (front_bytes front ++ single Caret b)) ++ visible_behind Caret (next front b) bytes) ended ∙ by (waits front b) refl
  where
    by : (t : Bool) → waits front b ≡ t → cond t [] (front_bytes front ++ single Caret b) ++ visible_behind Caret (next front b) bytes ≡ front_bytes front ++ b ∷ bytes
    by true e = later ∙ ap (λ s. s ++ bytes) (longer front b e) ∙ append_assoc (front_bytes front) (b ∷ []) bytes
    by false e =
        append_assoc (front_bytes front) (single Caret b) (visible_behind Caret (next front b) bytes)
        ∙ ap (λ s. front_bytes front ++ s) (single_stands b bytes (visible_behind Caret (next front b) bytes) own (later ∙ ap (λ f. front_bytes f ++ bytes) (anew front b e)))

stands : (front : Front) (bytes : List ℕ) → is_clean_behind front bytes ≡ true → visible_behind Caret front bytes ≡ front_bytes front ++ bytes
stands front [] e = subst (λ f. visible_behind Caret f [] ≡ front_bytes f ++ []) (sym (not_empty front e)) refl
stands front (b ∷ bytes) e =
    let own = and_parts (not (is_control b)) (not (ends front b) && is_clean_behind (next front b) bytes) e in
    let rest = and_parts (not (ends front b)) (is_clean_behind (next front b) bytes) own.1 in
    stands_at front b bytes (not_true (is_control b) own.0) (not_true (ends front b) rest.0) (stands (next front b) bytes rest.1)

pub clean_stands : CleanStands
unfolding visible
clean_stands text e = stands Empty text e
