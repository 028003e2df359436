-- One stamp more, put where it belongs by its place.
use Rattle.std.proofs.Common.{◌≡◌, ◌∙◌, ℕ, ◌+◌, ◌<◌, ◌≤◌, true, false, List, [], ◌∷◌, ◌++◌, length, take, drop, get_or, sym, ap, refl, arith, append_assoc, inl, inr}
use Rattle.std.specs.Prelude.{Bool, Option, None, Some, if◌then◌else◌, nat_lt}
use Rattle.std.specs.List.{All}
use Rattle.std.proofs.lemmas.Bool.{cases_Bool}
use Rattle.std.proofs.lemmas.Bool.Decides.{nat_tests}
use Rattle.std.proofs.lemmas.List.{drop_more, drop_all, take_more}
use Rattle.std.proofs.lemmas.List.Elements.{All-cons, All-head, All-nil, All-tail}
use Rattle.org_base.specs.declared.span.Span.{Span}
use Rattle.org_drawer.specs.declared.planning.Planning.{Planning}
use Rattle.org_entry.specs.Active.{plain_stamps, put, stamp_at, stamps_under, with_planned}
use Rattle.org_entry.proofs.ActiveWords.{with_planning}
use Rattle.org_entry.specs.Planning.{entry_planning}
use Rattle.org_entry.specs.declared.active.EntryStamp.{EntryStamp}
use Rattle.org_entry.specs.declared.active.Role.{Role}
use Rattle.org_entry.specs.declared.active.Role.TheVariants.{Plain, Scheduled, Deadline}
use Rattle.org_entry.specs.declared.entry.Entry.{Entry}
use Rattle.org_stamp.specs.declared.stamp.Found.{Found}
use Rattle.org_stamp.specs.declared.stamp.Stamp.{Stamp}

not_before : (a b : ℕ) → b ≤ a → nat_lt a b ≡ false
not_before a b h = grind (arith, nat_tests)

before : (a b : ℕ) → a < b → nat_lt a b ≡ true
before a b h = grind (arith, nat_tests)

put_over : (s t : EntryStamp) (ts : List EntryStamp) → t.at ≤ s.at → put s (t ∷ ts) ≡ t ∷ put s ts
put_over s t ts h = rw (not_before s.at t.at h) refl

put_before : (s t : EntryStamp) (ts : List EntryStamp) → s.at < t.at → put s (t ∷ ts) ≡ s ∷ t ∷ ts
put_before s t ts h = rw (before s.at t.at h) refl

pub put_more : (s x : EntryStamp) (xs : List EntryStamp) (i : ℕ) → i < length xs → x ≡ get_or xs i x → x.at ≤ s.at →
    put s xs ≡ take i xs ++ put s (drop i xs) → put s xs ≡ take (i + 1) xs ++ put s (drop (i + 1) xs)
put_more s x xs i lt is h so_far =
    let rest : List EntryStamp = drop (i + 1) xs in
    let first : drop i xs ≡ x ∷ rest = drop_more xs i x lt ∙ ap (λ y. y ∷ rest) (sym is) in
    so_far
    ∙ ap (λ ys. take i xs ++ put s ys) first
    ∙ ap (λ ys. take i xs ++ ys) (put_over s x rest h)
    ∙ sym (append_assoc (take i xs) (x ∷ []) (put s rest))
    ∙ ap (λ ys. ys ++ put s rest) (sym (take_more xs i x lt ∙ ap (λ y. take i xs ++ y ∷ []) (sym is)))

pub put_here : (s x : EntryStamp) (xs : List EntryStamp) (i : ℕ) → i < length xs → x ≡ get_or xs i x → s.at < x.at →
    put s xs ≡ take i xs ++ put s (drop i xs) → take i xs ++ s ∷ drop i xs ≡ put s xs
put_here s x xs i lt is h so_far =
    let rest : List EntryStamp = drop (i + 1) xs in
    let first : drop i xs ≡ x ∷ rest = drop_more xs i x lt ∙ ap (λ y. y ∷ rest) (sym is) in
    ap (λ ys. take i xs ++ s ∷ ys) first ∙ ap (λ ys. take i xs ++ ys) (sym (put_before s x rest h)) ∙ ap (λ ys. take i xs ++ put s ys) (sym first) ∙ sym so_far

pub put_last : (s : EntryStamp) (xs : List EntryStamp) (i : ℕ) → length xs ≤ i → put s xs ≡ take i xs ++ put s (drop i xs) → take i xs ++ s ∷ drop i xs ≡ put s xs
put_last s xs i le so_far =
    ap (λ ys. take i xs ++ s ∷ ys) (drop_all i xs le) ∙ ap (λ ys. take i xs ++ put s ys) (sym (drop_all i xs le)) ∙ sym so_far

-- what holds of each stamp of an entry, if it holds of the plain ones and of those of the planning line
module _ (P : EntryStamp → Type 0) where
  put_all : (s : EntryStamp) (ts : List EntryStamp) → P s → All P ts → All P (put s ts)
  put_all s [] one all = All-cons P s [] one all
  put_all s (t ∷ ts) one all = elim (cases_Bool (nat_lt s.at t.at)) [
    | inl yes' ↦ rw yes' (All-cons P s (t ∷ ts) one all)
    | inr no' ↦ rw no' (All-cons P t (put s ts) (All-head P t ts all) (put_all s ts one (All-tail P t ts all)))
  ]

  active_all : (s : EntryStamp) (ts : List EntryStamp) (active : Bool) → P s → All P ts → All P (if active then put s ts else ts)
  active_all s ts true one all = put_all s ts one all
  active_all s ts false one all = all

  -- a stamp of the planning line, if it is there
  abbrev pub OfFound : Bool → Role → Option (Stamp × Span) → Type 0
  OfFound opens role found = (f : Stamp × Span) → found ≡ Some f → P (stamp_at opens role f.1.at f.0)

  planned_all : (opens : Bool) (role : Role) (found : Option (Stamp × Span)) (ts : List EntryStamp) → OfFound opens role found → All P ts → All P (with_planned opens role found ts)
  planned_all opens role None ts one all = all
  planned_all opens role (Some f) ts one all = active_all (stamp_at opens role f.1.at f.0) ts f.0.active (one f refl) all

  -- those of the planning line, if there is one
  abbrev pub OfPlanning : Bool → Option Planning → Type 0
  OfPlanning opens planning = (p : Planning) → planning ≡ Some p → OfFound opens Scheduled p.scheduled × OfFound opens Deadline p.deadline

  planning_all : (opens : Bool) (planning : Option Planning) (ts : List EntryStamp) → OfPlanning opens planning → All P ts → All P (with_planning opens planning ts)
  planning_all opens None ts each all = all
  planning_all opens (Some p) ts each all =
      let both = each p refl in
      planned_all opens Deadline p.deadline (with_planned opens Scheduled p.scheduled ts) both.1 (planned_all opens Scheduled p.scheduled ts both.0 all)

  pub under_all : (opens : Bool) (e : Entry) → OfPlanning opens (entry_planning e) → All P (plain_stamps opens e.details.stamps) → All P (stamps_under opens e)
  under_all opens e each all = planning_all opens (entry_planning e) (plain_stamps opens e.details.stamps) each all

-- each says whether its heading is open
plain_open : (opens : Bool) (fs : List Found) → All (λ s. s.is_open ≡ opens) (plain_stamps opens fs)
plain_open opens [] = All-nil (λ (s : EntryStamp). s.is_open ≡ opens)
plain_open opens (f ∷ fs) = All-cons (λ (s : EntryStamp). s.is_open ≡ opens) (stamp_at opens Plain f.at f.stamp) (plain_stamps opens fs) refl (plain_open opens fs)

pub all_open : (opens : Bool) (e : Entry) → All (λ s. s.is_open ≡ opens) (stamps_under opens e)
all_open opens e = under_all (λ s. s.is_open ≡ opens) opens e (λ p _. (λ f _. refl, λ f _. refl)) (plain_open opens e.details.stamps)
