-- Stamps that are read have days of the calendar, and those of planning lines are no ranges.
use Rattle.std.proofs.Common.{◌≡◌, ℕ, zero, suc, ◌+◌, ◌-◌, true, false, cond, List, [], ◌∷◌, ◌++◌, drop, take, length, map, sym, refl, subst, arith, inl}
use Rattle.std.specs.Prelude.{Bool, Option, None, Some, IfSome, if◌then◌else◌}
use Rattle.std.specs.List.{All, flat_map}
use Rattle.std.specs.Option.{option_map, option_or}
use Rattle.std.proofs.lemmas.Option.{option_and_then_some}
use Rattle.std.proofs.lemmas.List.Concat.{flat_map-cons}
use Rattle.std.proofs.lemmas.List.Elements.{All-cons, All-head, All-nil, All-tail}
use Rattle.org_base.specs.Words.{is_space}
use Rattle.org_base.specs.declared.span.Span.{Span}
use Rattle.org_cal.specs.Days.{IsDay}
use Rattle.org_class.specs.Classes.{section_classes}
use Rattle.org_lines.specs.Cuts.{lines}
use Rattle.org_class.specs.declared.class.Class.{Class}
use Rattle.org_class.specs.declared.class.Class.TheVariants as class
use Rattle.org_drawer.specs.Planning.{last_of, planned, planning_of, stamp_if, is_same}
use Rattle.org_drawer.specs.declared.planning.Planning.{Planning}
use Rattle.org_entry.proofs.ActiveLemmas.{OfFound, OfPlanning, under_all}
use Rattle.org_entry.specs.Active.{plain_stamps, stamp_at, stamps_under}
use Rattle.org_entry.specs.Entry.{PlacedLine, active_at, entry_of, heading_line, if_active, placed, stamps_of}
use Rattle.org_entry.specs.Planning.{entry_planning, moved, moved_stamp}
use Rattle.org_entry.specs.declared.active.EntryStamp.{EntryStamp}
use Rattle.org_entry.specs.declared.entry.Entry.{Entry}
use Rattle.org_head.specs.declared.head.Head.{Head}
use Rattle.org_inherit.specs.Hidden.{is_hidden}
use Rattle.org_inherit.specs.Scope.{Scope}
use Rattle.org_settings.specs.Settings.{FileSettings}
use Rattle.org_stamp.specs.Line.{stamps_from, stamps_of as stamps_of_line}
use Rattle.org_stamp.proofs.LineWords.{one_more}
use Rattle.org_stamp.specs.Pair.{is_planning, pair_at, pair_of, pairs, pairs_from, past_spaces, word_at}
use Rattle.org_stamp.proofs.PairWords.{pair_and}
use Rattle.org_stamp.specs.Read.{single_of, stamp_of}
use Rattle.org_stamp.specs.declared.pair.Pair.{Pair}
use Rattle.org_stamp.specs.declared.pair.PlanningKeyword.{PlanningKeyword}
use Rattle.org_stamp.specs.declared.pair.PlanningKeyword.TheVariants.{Scheduled as ScheduledWord, Deadline as DeadlineWord}
use Rattle.org_stamp.specs.declared.stamp.Found.{Found}
use Rattle.org_stamp.specs.declared.stamp.Stamp.{Stamp}
use Rattle.org_stamp.proofs.CanPrintLemmas.{can_print, stamp_bounds}
use Rattle.org_stamp.proofs.ReadLemmas.{single_found}
use Rattle.org_stamp.proofs.SpelledLemmas.{inner_is_spelled}
pub use Rattle.org_agenda.specs.Came.{AreReadOf}
use Rattle.org_agenda.specs.Near.{IsSound, ReadStampsAreSound}
use Rattle.org_agenda.specs.Sources.{entry_sources, file_sources, owner_of, sources_of, under}
use Rattle.org_agenda.proofs.SourcesWords.{head_sources, sources_at, sources_from}
use Rattle.org_agenda.specs.declared.source.HeadingRef.{HeadingRef}
use Rattle.org_entry.specs.declared.active.Role.{Role}
use Rattle.org_entry.specs.declared.active.Role.TheVariants.{Plain, Scheduled, Deadline}
use Rattle.org_agenda.specs.declared.source.HeadingStamp.{HeadingStamp}

-- it is a day's, and no range
abbrev Single : Stamp → Type 0
Single s = IsDay s.day × (s.last ≡ None)

mapped : {A B P : Type 0} (f : A → B) (o : Option A) (y : B) → option_map f o ≡ Some y → ((x : A) → o ≡ Some x → f x ≡ y → P) → P
mapped f None y e k = absurd (cc)
mapped f (Some x) y e k = k x refl (cc)

single_is : (bytes : List ℕ) (s : Stamp) (n : ℕ) → single_of bytes ≡ Some (s, n) → Single s
single_is bytes s n h =
    let one = (single_found bytes s n h).1 in
    ((can_print (take n bytes) s (inl one)).day, ((inner_is_spelled s.active one.inner s).0 one.stamp_is).last_is)

found_single : (bytes : List ℕ) (found : Stamp × ℕ) → single_of bytes ≡ Some found → Single found.0
found_single bytes found h = single_is bytes found.0 found.1 h

pair_of_single : (word : PlanningKeyword) (at : ℕ) (bytes : List ℕ) (p : Pair) → pair_of word at bytes ≡ Some p → Single p.stamp
pair_of_single word at bytes p h =
    option_and_then_some _ (stamp_of bytes) p h (λ all was next.
    mapped _ (single_of bytes) p next (λ first had is. subst (λ (q : Pair). Single q.stamp) is (found_single bytes first had)))

pair_at_single : (at : ℕ) (bytes : List ℕ) (p : Pair) → pair_at at bytes ≡ Some p → Single p.stamp
pair_at_single at bytes p h = option_and_then_some _ (word_at bytes) p h (λ k was next. pair_of_single k.0 _ (past_spaces (drop k.1 bytes)) p next)

abbrev AllSingle : List Pair → Type 0
AllSingle [] = Unit {0}
AllSingle (p ∷ ps) = Single p.stamp × AllSingle ps

and_single : (at : ℕ) (later : ℕ → List Pair) (o : Option Pair) → ((p : Pair) → o ≡ Some p → Single p.stamp) → ((n : ℕ) → AllSingle (later n)) → AllSingle (pair_and at later o)
and_single at later None one more = tt
and_single at later (Some p) one more = (one p refl, more (p.end - (at + 1)))

pairs_single : (bytes : List ℕ) (at inside : ℕ) → AllSingle (pairs_from bytes at inside)
unfolding pairs_from
pairs_single [] at zero = tt
pairs_single [] at (suc inside) = tt
pairs_single (b ∷ bs) at zero =
    elim (is_space b) as (λ t. AllSingle (cond t (pairs_from bs (at + 1) 0) (pair_and at (pairs_from bs (at + 1)) (pair_at at (b ∷ bs)))))
    [ true ↦ pairs_single bs (at + 1) 0 | false ↦ and_single at (pairs_from bs (at + 1)) (pair_at at (b ∷ bs)) (pair_at_single at (b ∷ bs)) (pairs_single bs (at + 1)) ]
pairs_single (b ∷ bs) at (suc inside) = pairs_single bs (at + 1) inside

abbrev IfSingle : Option (Stamp × Span) → Type 0
IfSingle found = IfSome found (λ f. Single f.0)

or_single : (a b : Option (Stamp × Span)) → IfSingle a → IfSingle b → IfSingle (option_or a b)
or_single None b x y = y
or_single (Some f) b x y = x

stamp_if_single : (word : PlanningKeyword) (p : Pair) → Single p.stamp → IfSingle (stamp_if word p)
stamp_if_single word p h = elim (is_same word p.word) as (λ t. IfSingle (if t then Some (p.stamp, record { at = p.at; len = p.len }) else None)) [ true ↦ h | false ↦ tt ]

last_single : (word : PlanningKeyword) (ps : List Pair) → AllSingle ps → IfSingle (last_of word ps)
last_single word [] all = tt
last_single word (p ∷ ps) all = or_single (last_of word ps) (stamp_if word p) (last_single word ps all.1) (stamp_if_single word p all.0)

-- what a planning line says
record AreSingle (planning : Planning) : Type 0 where
  pub scheduled : IfSingle planning.scheduled
  pub deadline : IfSingle planning.deadline

planned_single : (line : List ℕ) → IfSome (planning_of line) AreSingle
planned_single line =
    elim (is_planning line) as (λ t. IfSome (if t then Some (planned (pairs line)) else None) AreSingle)
    [ true ↦ record { scheduled = last_single ScheduledWord (pairs line) (pairs_single line 0 0); deadline = last_single DeadlineWord (pairs line) (pairs_single line 0 0) } | false ↦ tt ]

moved_single : (at : ℕ) (found : Option (Stamp × Span)) → IfSingle found → IfSingle (option_map (moved_stamp at) found)
moved_single at None h = tt
moved_single at (Some f) h = h

moved_all : (at : ℕ) (o : Option Planning) → IfSome o AreSingle → IfSome (option_map (moved at) o) AreSingle
moved_all at None h = tt
moved_all at (Some p) h = record { scheduled = moved_single at p.scheduled h.scheduled; deadline = moved_single at p.deadline h.deadline }

entry_single : (e : Entry) → IfSome (entry_planning e) AreSingle
entry_single e = let at = length (heading_line e) in moved_all at (planning_of (drop at e.text)) (planned_single (drop at e.text))

-- the plain stamps
abbrev AllDated : List Found → Type 0
AllDated [] = Unit {0}
AllDated (f ∷ fs) = IsDay f.stamp.day × AllDated fs

append_dated : (fs gs : List Found) → AllDated fs → AllDated gs → AllDated (fs ++ gs)
append_dated [] gs a b = b
append_dated (f ∷ fs) gs a b = (a.0, append_dated fs gs a.1 b)

more_dated : (at : ℕ) (later : ℕ → List Found) (o : Option (Stamp × ℕ)) → IfSome o (λ found. IsDay found.0.day) → ((n : ℕ) → AllDated (later n)) → AllDated (one_more at later o)
more_dated at later None one more = more 0
more_dated at later (Some found) one more = (one, more (found.1 - 1))

read_dated : (bytes : List ℕ) (o : Option (Stamp × ℕ)) → o ≡ stamp_of bytes → IfSome o (λ found. IsDay found.0.day)
read_dated bytes None is = tt
read_dated bytes (Some found) is = (stamp_bounds (Some found) bytes is).day

line_dated : (bytes : List ℕ) (at inside : ℕ) → AllDated (stamps_from bytes at inside)
unfolding stamps_from
line_dated [] at zero = tt
line_dated [] at (suc inside) = tt
line_dated (b ∷ bs) at zero = more_dated at (stamps_from bs (at + 1)) (stamp_of (b ∷ bs)) (read_dated (b ∷ bs) (stamp_of (b ∷ bs)) refl) (line_dated bs (at + 1))
line_dated (b ∷ bs) at (suc inside) = line_dated bs (at + 1) inside

if_active_dated : (at : ℕ) (f : Found) → IsDay f.stamp.day → AllDated (if_active at f)
if_active_dated at f h = elim (f.stamp.active) as (λ t. AllDated (if t then record { at = at + f.at; len = f.len; stamp = f.stamp } ∷ [] else [])) [ true ↦ (h, tt) | false ↦ tt ]

all_active_dated : (at : ℕ) (fs : List Found) → AllDated fs → AllDated (flat_map (if_active at) fs)
all_active_dated at [] h = tt
all_active_dated at (f ∷ fs) h = subst AllDated (sym (flat_map-cons (if_active at) f fs)) (append_dated (if_active at f) (flat_map (if_active at) fs) (if_active_dated at f h.0) (all_active_dated at fs h.1))

active_dated : (at : ℕ) (bytes : List ℕ) → AllDated (active_at at bytes)
active_dated at bytes = all_active_dated at (stamps_of_line bytes) (line_dated bytes 0 0)

class_dated : (settings : FileSettings) (at : ℕ) (c : Class) (bytes : List ℕ) → AllDated (stamps_of settings at c bytes)
class_dated settings at class.Heading bytes = active_dated _ _
class_dated settings at class.Setting bytes = active_dated at bytes
class_dated settings at class.Plain bytes = active_dated at bytes
class_dated settings at _ bytes = tt

lines_dated : (settings : FileSettings) (ls : List PlacedLine) → AllDated (flat_map (λ (l : PlacedLine). stamps_of settings l.at l.class l.bytes) ls)
lines_dated settings [] = tt
lines_dated settings (l ∷ ls) =
    subst AllDated (sym (flat_map-cons (λ (m : PlacedLine). stamps_of settings m.at m.class m.bytes) l ls))
    (append_dated (stamps_of settings l.at l.class l.bytes) _ (class_dated settings l.at l.class l.bytes) (lines_dated settings ls))

-- the stamps of headings
abbrev AllSound : List HeadingStamp → Type 0
AllSound [] = Unit {0}
AllSound (s ∷ ss) = IsSound s × AllSound ss

pub all_sound : (ss : List HeadingStamp) → AllSound ss → All IsSound ss
all_sound [] h k d lt = absurd (omega (arith, lt))
all_sound (s ∷ ss) h zero d lt = h.0
all_sound (s ∷ ss) h (suc k) d lt = all_sound ss h.1 k d (omega (arith, lt))

append_sound : (ss ts : List HeadingStamp) → AllSound ss → AllSound ts → AllSound (ss ++ ts)
append_sound [] ts a b = b
append_sound (s ∷ ss) ts a b = (a.0, append_sound ss ts a.1 b)

-- what is sound of a stamp of an entry, whatever its heading
abbrev IsSoundStamp : EntryStamp → Type 0
IsSoundStamp s = IsDay s.stamp.day × (s.role ≡ Scheduled → s.stamp.last ≡ None)

single_sound : (opens : Bool) (role : Role) (found : Option (Stamp × Span)) → IfSingle found → OfFound IsSoundStamp opens role found
single_sound opens role None one f is = absurd (cc)
single_sound opens role (Some g) one f is = let same : g ≡ f = cc in subst (λ (h : Stamp × Span). IsSoundStamp (stamp_at opens role h.1.at h.0)) same (one.0, λ _. one.1)

planning_sound : (opens : Bool) (o : Option Planning) → IfSome o AreSingle → OfPlanning IsSoundStamp opens o
planning_sound opens None one p is = absurd (cc)
planning_sound opens (Some q) one p is =
    let same : q ≡ p = cc in
    subst (λ (r : Planning). OfFound IsSoundStamp opens Scheduled r.scheduled × OfFound IsSoundStamp opens Deadline r.deadline) same
    (single_sound opens Scheduled q.scheduled one.scheduled, single_sound opens Deadline q.deadline one.deadline)

plain_sound : (opens : Bool) (fs : List Found) → AllDated fs → All IsSoundStamp (plain_stamps opens fs)
plain_sound opens [] h = All-nil IsSoundStamp
plain_sound opens (f ∷ fs) h = All-cons IsSoundStamp (stamp_at opens Plain f.at f.stamp) (plain_stamps opens fs) (h.0, λ is. absurd (cc)) (plain_sound opens fs h.1)

under_sound : (owner : HeadingRef) (ss : List EntryStamp) → All IsSoundStamp ss → AllSound (map (under owner) ss)
under_sound owner [] all = tt
under_sound owner (s ∷ ss) all =
    let one = All-head IsSoundStamp s ss all in
    (record { day = one.0; single = one.1 }, under_sound owner ss (All-tail IsSoundStamp s ss all))

entry_sound : (owner : HeadingRef) (settings : FileSettings) (section : List ℕ) → AllSound (entry_sources owner (entry_of settings section))
entry_sound owner settings section =
    let e = entry_of settings section in
    let plain = plain_sound owner.is_open e.details.stamps (lines_dated settings (placed 0 (lines section) (section_classes section))) in
    under_sound owner (stamps_under owner.is_open e) (under_all IsSoundStamp owner.is_open e (planning_sound owner.is_open (entry_planning e) (entry_single e)) plain)

head_sound : (scope : Scope) (file i : ℕ) (settings : FileSettings) (section : List ℕ) (h : Option Head) → AllSound (head_sources scope file i (entry_of settings section) h)
head_sound scope file i settings section None = tt
head_sound scope file i settings section (Some head) =
    elim (is_hidden scope.entries i) as (λ b. AllSound (if b then [] else entry_sources (owner_of scope file i (entry_of settings section) head) (entry_of settings section)))
    [ true ↦ tt | false ↦ entry_sound (owner_of scope file i (entry_of settings section) head) settings section ]

-- those of the entries of sections
pub from_sound : (scope : Scope) (file i : ℕ) (settings : FileSettings) (sections : List (List ℕ)) → AllSound (sources_from scope file i (map (entry_of settings) sections))
from_sound scope file i settings [] = tt
from_sound scope file i settings (s ∷ ss) =
    append_sound (sources_at scope file i (entry_of settings s)) (sources_from scope file (i + 1) (map (entry_of settings) ss))
    (head_sound scope file i settings s (entry_of settings s).head) (from_sound scope file (i + 1) settings ss)

pub read_stamps_are_sound : ReadStampsAreSound
read_stamps_are_sound scope file settings sections read =
    all_sound (file_sources scope file) (subst (λ (es : List Entry). AllSound (sources_from scope file 0 es)) (sym read) (from_sound scope file 0 settings sections))

files_sound : (k : ℕ) (ss : List Scope) → AreReadOf ss → AllSound (sources_of k ss)
files_sound k [] h = tt
files_sound k (s ∷ ss) h =
    append_sound (file_sources s k) (sources_of (k + 1) ss) (subst (λ (es : List Entry). AllSound (sources_from s k 0 es)) (sym h.0.2) (from_sound s k 0 h.0.0 h.0.1)) (files_sound (k + 1) ss h.1)

-- so the stamps of all files are sound
pub read_sound : (k : ℕ) (ss : List Scope) → AreReadOf ss → All IsSound (sources_of k ss)
read_sound k ss h = all_sound (sources_of k ss) (files_sound k ss h)
