-- One setting line more.
use Rattle.std.proofs.Common.{◌≡◌, ℕ, zero, suc, ◌+◌, ◌<◌, ◌≤◌, true, false, cond, List, [], ◌∷◌, ◌++◌, length, drop, refl, sym, ap, ◌∙◌, inl, inr, arith, true≢false, append_assoc, append-nil}
use Rattle.std.specs.Prelude.{◌||◌, Option, slice_get, Result, Ok, Err, OnErr}
use Rattle.std.specs.List.{list_any}
use Rattle.std.proofs.lemmas.Bool.{cases_Bool}
use Rattle.org_base.specs.Counts.{Counts, ticked}
use Rattle.org_base.specs.declared.meter.Tick.TheVariants.{Classify}
use Rattle.org_lines.specs.Cuts.{Cut}
use Rattle.org_class.specs.Classes.{StandStill, is_setting_class, setting_of, lines_of_setting}
use Rattle.org_class.specs.Ticks.{classified}
use Rattle.org_class.specs.declared.class.Class.{Class}
use Rattle.org_class.proofs.StepLemmas.{bytes_of}

-- texts after texts that stand still
pub still_more : (old a b s : List (List ℕ)) → StandStill old a → b ≡ a ++ s → StandStill old b
still_more old a b s still more = (still.0 ++ s, more ∙ ap (λ t. t ++ s) still.1 ∙ append_assoc old still.0 s)

no_classes : (ls : List (List ℕ)) → lines_of_setting ls [] ≡ []
no_classes [] = refl
no_classes (l ∷ ls) = refl

-- the first line, by the class at its place, and the others
first_setting : (cs : List Class) (n : ℕ) (l : List ℕ) (ls : List (List ℕ)) → lines_of_setting (l ∷ ls) (drop n cs) ≡ setting_of (slice_get cs n) l ++ lines_of_setting ls (drop (suc n) cs)
first_setting [] zero l ls = sym (no_classes ls)
first_setting [] (suc n) l ls = sym (no_classes ls)
first_setting (c ∷ cs) zero l ls = elim (cases_Bool (is_setting_class c)) [ inl e ↦ rw e refl | inr e ↦ rw e refl ]
first_setting (c ∷ cs) (suc n) l ls = first_setting cs n l ls

pub setting_more : (cs : List Class) (n : ℕ) (done new all : List (List ℕ)) (s t : List Cut) (cut : Cut) (line : List ℕ) (class : Option Class) → s ≡ cut ∷ t → line ≡ cut.bytes → class ≡ slice_get cs n → new ≡ done ++ setting_of class line → done ++ lines_of_setting (bytes_of s) (drop n cs) ≡ all → new ++ lines_of_setting (bytes_of t) (drop (n + 1) cs) ≡ all
setting_more cs n done new all s t cut line class first is place pushed so_far =
    let next : n + 1 ≡ suc n = omega arith in
    let here : setting_of class line ≡ setting_of (slice_get cs n) cut.bytes = ap (λ c. setting_of c line) place ∙ ap (setting_of (slice_get cs n)) is in
    ap (λ x. x ++ lines_of_setting (bytes_of t) (drop (n + 1) cs)) (pushed ∙ ap (λ x. done ++ x) here)
    ∙ append_assoc done (setting_of (slice_get cs n) cut.bytes) (lines_of_setting (bytes_of t) (drop (n + 1) cs))
    ∙ ap (λ m. done ++ (setting_of (slice_get cs n) cut.bytes ++ lines_of_setting (bytes_of t) (drop m cs))) next
    ∙ ap (λ x. done ++ x) (sym (first_setting cs n cut.bytes (bytes_of t)))
    ∙ ap (λ x. done ++ lines_of_setting (bytes_of x) (drop n cs)) (sym first)
    ∙ so_far

pub setting_end : (cs : List Class) (n : ℕ) (done : List (List ℕ)) (s : List Cut) → s ≡ [] → done ++ lines_of_setting (bytes_of s) (drop n cs) ≡ done
setting_end cs n done s none = ap (λ x. done ++ lines_of_setting (bytes_of x) (drop n cs)) none ∙ append-nil done

on_err : {A B : Type 0} (r : Result A B) (X : Type 0) → X → OnErr r X
on_err (Ok a) X x = tt
on_err (Err b) X x = x

-- one section more was counted
pub one_counted : {A B : Type 0} (r : Result A B) (sections : List (List ℕ)) (i : ℕ) (old before after : Counts) → i < length sections → after ≡ ticked Classify before → before ≡ classified i old →
    OnErr r ((n : ℕ) × (n ≤ length sections) × (after ≡ classified n old))
one_counted r sections i old before after less tick so_far = on_err r _ (suc i, omega arith, tick ∙ ap (ticked Classify) so_far)

-- where no class is that of a setting line, there are none
pub no_settings : (ls : List (List ℕ)) (cs : List Class) → list_any is_setting_class cs ≡ false → lines_of_setting ls cs ≡ []
no_settings [] cs e = refl
no_settings (l ∷ ls) [] e = refl
no_settings (l ∷ ls) (c ∷ cs) e =
    elim (is_setting_class c) as (λ b. (b || list_any is_setting_class cs) ≡ false → cond b (l ∷ lines_of_setting ls cs) (lines_of_setting ls cs) ≡ [])
    [ true ↦ λ f. absurd (true≢false f) | false ↦ λ f. no_settings ls cs f ] e
