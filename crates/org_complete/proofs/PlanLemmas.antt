-- What a plan writes stands in the heading's text, one part after the other.
use Rattle.std.proofs.Common.{◌≡◌, ℕ, ◌+◌, ◌≤◌, ◌&&◌, ◌||◌, false, inl, inr, Some, None, Option, List, [], ◌∷◌, length, zero, suc, refl, sym, ap, subst, arith}
use Rattle.std.specs.Prelude.{Result, Ok, Err, IfSome, nat_lt, ⊤, ok_or}
use Rattle.std.specs.List.{All}
use Rattle.std.specs.Str.{IsUtf8}
use Rattle.std.proofs.lemmas.Bool.{cases_Bool, ltb-true, ltb-false}
use Rattle.std.proofs.lemmas.List.Elements.{All-head, All-tail}
use Rattle.std.proofs.lemmas.Str.{IsUtf8-nil}
use Rattle.org_base.specs.declared.fault.Fault.{Fault}
use Rattle.org_base.specs.declared.span.Span.{Span}
use Rattle.org_cal.specs.Faults.{date_fault}
use Rattle.org_cal.specs.declared.moment.Moment.{Moment}
use Rattle.org_drawer.specs.declared.planning.Planning.{Planning}
use Rattle.org_complete.specs.Completion.{shifts, lacks, shift_at, by_place, plain_plan, repeat_plan}
use Rattle.org_complete.proofs.CompletionWords.{put_at, shift_plan, plan_of}
use Rattle.org_complete.specs.Written.{is_hours, shift_end, IsBehind}
use Rattle.org_complete.specs.declared.plan.Plan.{Plan}
use Rattle.org_complete.specs.declared.plan.Shift.{Shift}
use Rattle.org_complete.proofs.PairLemmas.{IsWithin, AreDisjoint, IsLaid}
use Rattle.org_repeat.specs.Faults.{hours_fault}
use Rattle.org_repeat.specs.Shift.{shift_of, shift_answer}
use Rattle.org_repeat.specs.Shifted.{lacks_time}
use Rattle.org_settings.specs.Keywords.{Keyword, keyword_done, keyword_first, keyword_word}
use Rattle.org_settings.specs.Settings.{FileSettings}
use Rattle.org_stamp.specs.declared.stamp.Stamp.{Stamp}
use Rattle.org_utf8.specs.Laws.{IsTextPart, IsTextStamp}

-- a shift is refused for want of a time just where the stamp lacks one
no_date_hours : (span : Span) (o : Option Stamp) → is_hours (put_at span (ok_or o date_fault)) ≡ false
no_date_hours span None = refl
no_date_hours span (Some s) = refl

pub hours_is : (now : Moment) (found : Option (Stamp × Span)) → is_hours (shift_at now found) ≡ lacks found
unfolding shift_answer
hours_is now None = refl
hours_is now (Some s) = elim (cases_Bool (shifts (Some s))) [
  | inl e ↦ elim (cases_Bool (lacks_time s.0)) [
    | inl h ↦ rw (e, h) refl
    | inr h ↦ rw (e, h) (no_date_hours s.1 (shift_of s.0 now))
  ]
  | inr e ↦ rw e refl
]

-- the shift is one of this stamp
abbrev IsOfStamp : Option (Stamp × Span) → Option Shift → Type 0
IsOfStamp a None = ⊤
IsOfStamp None (Some s) = ⊥
IsOfStamp (Some a) (Some s) = s.span ≡ a.1

put_of : (a : Stamp × Span) (r : Result Stamp Fault) (o : Option Shift) → put_at a.1 r ≡ Ok o → IsOfStamp (Some a) o
put_of a (Err f) o e = absurd cc
put_of a (Ok t) None e = tt
put_of a (Ok t) (Some s) e = let same : record { span = a.1; stamp = t } ≡ s = cc in ap (λ (x : Shift). x.span) (sym same)

nothing_of : (a : Option (Stamp × Span)) (o : Option Shift) (refused : Result (Option Shift) Fault) → refused ≡ Ok o → refused ≡ Ok None → IsOfStamp a o
nothing_of a None r e n = tt
nothing_of a (Some s) r e n = absurd cc

of_stamp : (now : Moment) (a : Option (Stamp × Span)) (o : Option Shift) → shift_at now a ≡ Ok o → IsOfStamp a o
of_stamp now None o e = nothing_of None o (shift_at now None) e refl
of_stamp now (Some s) o e = elim (cases_Bool (shifts (Some s))) [
  | inl h ↦ put_of s (shift_answer s.0 now) o (rw h at e)
  | inr h ↦ nothing_of (Some s) o (shift_at now (Some s)) e (rw h refl)
]

-- two shifts after a place, one after the other
abbrev pub AreBehind : List ℕ → ℕ → Option Shift × Option Shift → Type 0
AreBehind x from both = IsBehind x from both.0 × IsBehind x (shift_end from both.0) both.1

one_behind : (x : List ℕ) (from low most : ℕ) (a : Stamp × Span) (s : Shift) → s.span ≡ a.1 → from ≤ low → IsWithin low most (Some a) → IsTextStamp x (Some a) → IsBehind x from (Some s)
one_behind x from low most a s e le h t =
    let at : s.span.at ≡ a.1.at = ap (λ (z : Span). z.at) e in
    let first = h.0 in
    (omega (arith, at, first), subst (IsTextPart x) (sym e) t)

are_behind : (x : List ℕ) (from low most : ℕ) (a b : Option (Stamp × Span)) (o u : Option Shift) → IsOfStamp a o → IsOfStamp b u → IsWithin low most a → IsWithin low most b → AreDisjoint a b → from ≤ low →
    IsTextStamp x a → IsTextStamp x b → AreBehind x from (by_place o u)
are_behind x from low most a b None None h k v w d le t t' = (tt, tt)
are_behind x from low most a None None (Some u) h k v w d le t t' = absurd k
are_behind x from low most a (Some b) None (Some u) h k v w d le t t' = (tt, one_behind x from low most b u k le w t')
are_behind x from low most None b (Some s) None h k v w d le t t' = absurd h
are_behind x from low most (Some a) b (Some s) None h k v w d le t t' = (one_behind x from low most a s h le v t, tt)
are_behind x from low most None b (Some s) (Some u) h k v w d le t t' = absurd h
are_behind x from low most (Some a) None (Some s) (Some u) h k v w d le t t' = absurd k
are_behind x from low most (Some a) (Some b) (Some s) (Some u) h k v w d le t t' =
    let at : s.span.at ≡ a.1.at = ap (λ (z : Span). z.at) h in
    let len : s.span.len ≡ a.1.len = ap (λ (z : Span). z.len) h in
    let at' : u.span.at ≡ b.1.at = ap (λ (z : Span). z.at) k in
    let len' : u.span.len ≡ b.1.len = ap (λ (z : Span). z.len) k in
    elim (cases_Bool (nat_lt s.span.at u.span.at)) [
      | inl e ↦
          let lt = ltb-true s.span.at u.span.at e in
          let next : s.span.at + s.span.len ≤ u.span.at = elim d [ inl p ↦ omega (arith, at, len, at', p) | inr p ↦ absurd (omega (arith, at, at', lt, p)) ] in
          rw e (one_behind x from low most a s h le v t, (next, subst (IsTextPart x) (sym k) t'))
      | inr e ↦
          let ge = ltb-false s.span.at u.span.at e in
          let next : u.span.at + u.span.len ≤ s.span.at = elim d [ inl p ↦ absurd (omega (arith, at, at', ge, p)) | inr p ↦ omega (arith, at, at', len', p) ] in
          rw e (one_behind x from low most b u k le w t', (next, subst (IsTextPart x) (sym h) t))
    ]

-- the stamps that may shift are parts of the text
abbrev pub AreTextStamps : List ℕ → Planning → Type 0
AreTextStamps x p = IsTextStamp x p.scheduled × IsTextStamp x p.deadline

-- what a heading's planning is to a plan
pub record HasRoom (x : List ℕ) (from : ℕ) (o : Option Planning) : Type 0 where
  pub low : ℕ
  pub above : from ≤ low
  pub laid : IfSome o (IsLaid low (length x))
  pub text : IfSome o (AreTextStamps x)

shift_fits : (x : List ℕ) (from low place : ℕ) (now : Moment) (p : Planning) (r q : Result (Option Shift) Fault) (plan : Plan) → shift_at now p.scheduled ≡ r → shift_at now p.deadline ≡ q → Ok plan ≡ shift_plan place r q →
    from ≤ low → IsLaid low (length x) p → AreTextStamps x p → AreBehind x from plan.shifts
shift_fits x from low place now p (Err f) q plan e d is le laid text = absurd cc
shift_fits x from low place now p (Ok o) (Err f) plan e d is le laid text = absurd cc
shift_fits x from low place now p (Ok o) (Ok u) plan e d is le laid text =
    let same : plan ≡ record { keyword = place; shifts = by_place o u } = cc in
    let found = are_behind x from low (length x) p.scheduled p.deadline o u (of_stamp now p.scheduled o e) (of_stamp now p.deadline u d) laid.scheduled laid.deadline laid.apart le text.0 text.1 in
    subst (λ (z : Plan). AreBehind x from z.shifts) (sym same) found

plain_fits : (x : List ℕ) (from place : ℕ) (plan : Plan) (r : Result Plan Fault) → Ok plan ≡ r → r ≡ Ok (plain_plan place) → AreBehind x from plan.shifts
plain_fits x from place plan r e n = let same : plan ≡ plain_plan place = cc in subst (λ (z : Plan). AreBehind x from z.shifts) (sym same) (tt, tt)

pub plan_fits : (x : List ℕ) (from : ℕ) (now : Moment) (settings : FileSettings) (o : Option Planning) (place : Option ℕ) (plan : Plan) → Ok plan ≡ plan_of now settings o place → HasRoom x from o → AreBehind x from plan.shifts
plan_fits x from now settings o None plan e room = absurd cc
plan_fits x from now settings None (Some k) plan e room = plain_fits x from k plan (plan_of now settings None (Some k)) e refl
plan_fits x from now settings (Some p) (Some k) plan e room = elim (cases_Bool (keyword_done settings.keywords k && (shifts p.scheduled || shifts p.deadline))) [
  | inl h ↦
      let repeats : Ok plan ≡ repeat_plan now (keyword_first settings.keywords k) p = rw h at e in
      elim (cases_Bool (lacks p.scheduled || lacks p.deadline)) [
        | inl l ↦ (let refused : Ok plan ≡ Err hours_fault = rw l at repeats in absurd cc)
        | inr l ↦ shift_fits x from room.low (keyword_first settings.keywords k) now p (shift_at now p.scheduled) (shift_at now p.deadline) plan refl refl (rw l at repeats) room.above room.laid room.text
      ]
  | inr h ↦ plain_fits x from k plan (plan_of now settings (Some p) (Some k)) e (rw h refl)
]

-- the words of keywords are text
abbrev HasTextWord : Keyword → Type 0
HasTextWord k = IsUtf8 k.word

pub word_is_text : (ks : List Keyword) (i : ℕ) → All (λ (k : Keyword). IsUtf8 k.word) ks → IsUtf8 (keyword_word ks i)
word_is_text [] i all = IsUtf8-nil
word_is_text (k ∷ ks) zero all = All-head HasTextWord k ks all
word_is_text (k ∷ ks) (suc i) all = word_is_text ks i (All-tail HasTextWord k ks all)
