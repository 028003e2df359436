-- Whether stamps stand somewhere, without what they say.
use Rattle.std.proofs.Common.{◌≡◌, ℕ, ◌+◌, ◌-◌, Bool, true, false, not, ◌&&◌, ◌||◌, ◌==◌, List, [], ◌∷◌, length, take, drop, get_or, refl, sym, ◌∙◌, ap, inl, inr, arith}
use Rattle.std.specs.Prelude.{Option, Some, None, is_some, position}
use Rattle.std.specs.Option.{option_map, option_map_or}
use Rattle.std.specs.List.{list_any, prefix_len}
use Rattle.std.proofs.lemmas.Bool.{cases_Bool}
use Rattle.std.proofs.lemmas.Bool.Decides.{nat_tests}
use Rattle.org_base.specs.Words.{is_space}
use Rattle.org_cal.specs.Texts.{date_of}
use Rattle.org_stamp.specs.Inner.{after_time, inner_of, is_name}
use Rattle.org_stamp.specs.Pair.{is_empty, is_planning, pair_at, pair_of, pairs_from, past_spaces, word_at}
use Rattle.org_stamp.specs.Read.{closed, single_of}
use Rattle.org_stamp.specs.Seen.{IsAnyInner, MayFollow, begins_inactive}
use Rattle.org_stamp.specs.Short.{IsTimed, name_at}
use Rattle.org_stamp.specs.Spaced.{EndsWord}
use Rattle.org_stamp.specs.Stamp.{close_of, is_close}
use Rattle.org_stamp.specs.declared.pair.Pair.{Pair}
use Rattle.org_stamp.specs.declared.pair.PlanningKeyword.{PlanningKeyword}
use Rattle.org_stamp.specs.declared.stamp.Stamp.{Stamp}
use Rattle.org_stamp.proofs.PairLemmas.{NoSpace, no_space, none_of, past_gap, step}
use Rattle.org_stamp.proofs.ReadLemmas.{active_inner}
use Rattle.org_stamp.proofs.ShortLemmas.{short_at, without_words}
use Rattle.org_stamp.proofs.WordLemmas.{words-empty}

-- what is one or the other
pub either : (seen read : Bool) → (seen ≡ true → read ≡ true) → (seen || read) ≡ read
either true read h = sym (h refl)
either false read h = refl

some_of : {A : Type 0} (o : Option A) (P : Type 0) → is_some o ≡ true → ((x : A) → o ≡ Some x → P) → P
some_of None P e k = absurd (cc)
some_of (Some x) P e k = k x refl

-- a date and a name at their places, and what may follow
pub printed_is : (bytes : List ℕ) (x y z : ℕ) (rest : List ℕ) → name_at bytes ≡ Some ((x, y, z), rest) → is_some (date_of (take 10 bytes)) ≡ true →
    list_any is_space (x ∷ y ∷ z ∷ []) ≡ false → is_name (x ∷ y ∷ z ∷ []) ≡ true → EndsWord rest → MayFollow rest → IsAnyInner bytes
printed_is bytes x y z rest found date clean name ends follows = λ active.
    some_of (date_of (take 10 bytes)) (is_some (inner_of active bytes) ≡ true) date
    (λ day is. ap is_some (short_at active bytes x y z rest day found is clean name ends) ∙ follows active day)

pub nothing_follows : (bytes : List ℕ) → length bytes ≡ 0 → EndsWord bytes × MayFollow bytes
nothing_follows [] e = (tt, λ active day. ap is_some (without_words active day [] e))
nothing_follows (b ∷ bs) e = absurd (omega (arith, e))

pub time_follows : (bytes : List ℕ) (time : ℕ) (rest : List ℕ) → IsTimed bytes time rest → length rest ≡ 0 → MayFollow bytes
time_follows bytes time [] timed e = λ active day. ap is_some (timed active day ∙ ap (after_time active day (Some time) None) words-empty)
time_follows bytes time (b ∷ bs) timed e = absurd (omega (arith, e))

-- a stamp has the brackets that it was read from
closed_active : (active : Bool) (bs : List ℕ) (at : Option ℕ) (f : Stamp × ℕ) → closed active bs at ≡ Some f → f.0.active ≡ active
closed_active active bs None f e = absurd (cc)
closed_active active bs (Some i) f e =
    elim (cases_Bool (get_or bs i 0 == close_of active)) [
      | inl is ↦
          let inside : option_map (λ s. (s, i + 2)) (inner_of active (take i bs)) ≡ Some f = rw is at e in
          some_inner active (take i bs) i (inner_of active (take i bs)) f refl inside
      | inr other ↦ absurd (let none : None ≡ Some f = rw other at e in cc)
    ]
  where
    some_inner : (a : Bool) (inner : List ℕ) (i : ℕ) (o : Option Stamp) (f : Stamp × ℕ) → inner_of a inner ≡ o → option_map (λ s. (s, i + 2)) o ≡ Some f → f.0.active ≡ a
    some_inner a inner i None f is e = absurd (cc)
    some_inner a inner i (Some s) f is e = let same : s ≡ f.0 = ap (λ (o : Option (Stamp × ℕ)). option_map_or (λ g. g.0) o s) e in ap (λ (t : Stamp). t.active) (sym same) ∙ active_inner a inner s is

not_active : (active : Bool) (bs : List ℕ) (o : Option (Stamp × ℕ)) → closed active bs (position is_close bs) ≡ o → option_map_or (λ found. not found.0.active) o false ≡ (not active && is_some o)
not_active active bs None e = cases active
  where
    cases : (a : Bool) → false ≡ (not a && false)
    cases true = refl
    cases false = refl
not_active active bs (Some f) e = ap not (closed_active active bs (position is_close bs) f e) ∙ cases active
  where
    cases : (a : Bool) → not a ≡ (not a && true)
    cases true = refl
    cases false = refl

pub inactive_front : (bytes rest : List ℕ) → bytes ≡ 91 ∷ rest → begins_inactive bytes ≡ is_some (closed false rest (position is_close rest))
unfolding single_of
inactive_front bytes rest e = ap begins_inactive e ∙ not_active false rest (closed false rest (position is_close rest)) refl

pub other_front : (b : ℕ) (bytes rest : List ℕ) → bytes ≡ b ∷ rest → (b ≡ 91 → ⊥) → (b == 91) ≡ begins_inactive bytes
unfolding single_of
other_front b bytes rest e unlike = elim (cases_Bool (b == 91)) [
  | inl is ↦ absurd (unlike (grind (arith, nat_tests)))
  | inr other ↦
      other
      ∙ sym (ap begins_inactive e
      ∙ elim (cases_Bool (b == 60)) [
        | inl opens ↦ rw opens (not_active true rest (closed true rest (position is_close rest)) refl)
        | inr neither ↦ rw (neither, other) refl
      ])
]

pub no_front : (bytes : List ℕ) → length bytes ≡ 0 → begins_inactive bytes ≡ false
unfolding single_of
no_front [] e = refl
no_front (b ∷ bs) e = absurd (omega (arith, e))

-- a pair stands where its first stamp does
some_pair : (word : PlanningKeyword) (at : ℕ) (bs : List ℕ) (o : Option (Stamp × ℕ)) → single_of bs ≡ o → is_some (pair_of word at bs) ≡ is_some o
some_pair word at bs None e = rw e refl
some_pair word at bs (Some f) e = rw e refl

has_pair : (at : ℕ) (bs : List ℕ) → NoSpace bs → not (is_empty (pairs_from bs at 0)) ≡ is_some (pair_at at bs)
has_pair at [] n = ap (λ ps. not (is_empty ps)) (none_of at)
has_pair at (b ∷ bs) n = ap (λ ps. not (is_empty ps)) (step b bs at ∙ rw n refl) ∙ found (pair_at at (b ∷ bs))
  where
    found : (o : Option Pair) → not (is_empty (elim o [ None ↦ [] | Some p ↦ p ∷ pairs_from bs (at + 1) (p.end - (at + 1)) ])) ≡ is_some o
    found None = refl
    found (Some p) = refl

-- a line is a planning line by its first keyword and stamp
abbrev pub begins_pair : List ℕ → Bool
begins_pair bs = option_map_or (λ (k : PlanningKeyword × ℕ). is_some (single_of (past_spaces (drop k.1 bs)))) (word_at bs) false

pair_here : (at : ℕ) (bs : List ℕ) (o : Option (PlanningKeyword × ℕ)) → word_at bs ≡ o → is_some (pair_at at bs) ≡ option_map_or (λ (k : PlanningKeyword × ℕ). is_some (single_of (past_spaces (drop k.1 bs)))) o false
pair_here at bs None e = rw e refl
pair_here at bs (Some k) e = rw e (some_pair k.0 (at + (k.1 + prefix_len is_space (drop k.1 bs))) (past_spaces (drop k.1 bs)) (single_of (past_spaces (drop k.1 bs))) refl)

pub first_is_pair : (line : List ℕ) → is_planning line ≡ begins_pair (past_spaces line)
first_is_pair line =
    let n = prefix_len is_space line in
    let bs = past_spaces line in
    ap (λ ps. not (is_empty ps)) (past_gap line 0) ∙ has_pair (0 + n) bs (no_space line) ∙ pair_here (0 + n) bs (word_at bs) refl

-- it is what is read: a keyword, and a stamp behind it
pub is_planned : (line bytes rest : List ℕ) (word : PlanningKeyword) (len : ℕ) → bytes ≡ past_spaces line → word_at bytes ≡ Some (word, len) → rest ≡ past_spaces (drop len bytes) →
    is_some (single_of rest) ≡ is_planning line
is_planned line bytes rest word len there found behind =
    ap (λ bs. is_some (single_of bs)) behind
    ∙ sym (first_is_pair line ∙ ap begins_pair (sym there) ∙ ap (λ o. option_map_or (λ (k : PlanningKeyword × ℕ). is_some (single_of (past_spaces (drop k.1 bytes)))) o false) found)

pub is_unplanned : (line bytes : List ℕ) → bytes ≡ past_spaces line → word_at bytes ≡ None → false ≡ is_planning line
is_unplanned line bytes there none =
    sym (first_is_pair line ∙ ap begins_pair (sym there) ∙ ap (λ o. option_map_or (λ (k : PlanningKeyword × ℕ). is_some (single_of (past_spaces (drop k.1 bytes)))) o false) none)
