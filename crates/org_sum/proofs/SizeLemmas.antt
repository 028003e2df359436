-- The clocks of a text have at most so many minutes.
use Rattle.std.proofs.Common.{◌≡◌, ◌∙◌, ℕ, ◌+◌, ◌*◌, ◌≤◌, Bool, true, false, if◌then◌else◌, List, [], ◌∷◌, length, drop, map, refl, ap, arith, length-drop, length-append}
use Rattle.std.specs.Prelude.{Option, Some, None, codes, nat_eq}
use Rattle.std.specs.List.{concat, flat_map, prefix_len, starts_with}
use Rattle.std.specs.Option.{option_and_then, option_map, option_to_list}
use Rattle.std.proofs.lemmas.List.Concat.{flat_map-cons}
use Rattle.std.proofs.lemmas.List.Sums.{sum_by-cons, sum_by-append}
use Rattle.org_base.specs.Words.{is_space}
use Rattle.org_cal.specs.Minutes.{minute_of, minute_at}
use Rattle.org_class.proofs.Cuts.{concat-sections}
use Rattle.org_class.specs.Classes.{section_classes}
use Rattle.org_class.specs.Sections.{sections}
use Rattle.org_class.specs.declared.class.Class.{Class}
use Rattle.org_class.specs.declared.class.Class.TheVariants.{Heading, Planning, DrawerOpen, Node, DrawerEnd, BlockOpen, Verbatim, BlockEnd, Comment, Setting, Clock, Plain}
use Rattle.org_drawer.specs.Clock.{minutes_in}
use Rattle.org_drawer.proofs.ClockWords.{minutes_to}
use Rattle.org_drawer.specs.declared.clock.ClockLine.{ClockLine}
use Rattle.org_entry.specs.Entry.{PlacedLine, clocks_of, entry_of, placed}
use Rattle.org_lines.proofs.LineLemmas.{concat-lines}
use Rattle.org_lines.specs.Cuts.{lines}
use Rattle.org_settings.specs.Settings.{FileSettings}
use Rattle.org_sum.proofs.StampSizes.{stamp_bytes}
use Rattle.org_stamp.specs.Pair.{clock_stamp, past_spaces}
use Rattle.org_stamp.proofs.PairWords.{if_inactive}
use Rattle.org_stamp.specs.Read.{stamp_of}
use Rattle.org_stamp.specs.declared.stamp.Stamp.{Stamp}
use Rattle.org_sum.specs.Laws.{ClocksAreSmall}
use Rattle.org_sum.specs.Measures.{clock_minutes, minutes_of}
use Rattle.org_sum.specs.Sums.{total}

stamp_in : (b : Bool) (r : Option (Stamp × ℕ)) (rest : List ℕ) (s : Stamp) → stamp_of rest ≡ r → (if b then option_and_then (λ found. if_inactive found.0) r else None) ≡ Some s → 12 ≤ length rest
stamp_in true (Some (t, n)) rest s e h = stamp_bytes rest t n e
stamp_in true None rest s e h = absurd (cc)
stamp_in false r rest s e h = absurd (cc)

-- a clock line has at least eighteen bytes: its word, and a stamp
clock_long : (line : List ℕ) (s : Stamp) → clock_stamp line ≡ Some s → 18 ≤ length line
clock_long line s h =
    let text : List ℕ = past_spaces line in
    let behind : List ℕ = drop 6 text in
    let twelve = stamp_in (starts_with nat_eq text (codes "CLOCK:")) (stamp_of (past_spaces behind)) (past_spaces behind) s refl h in
    let a = length-drop (prefix_len is_space behind) behind in
    let b = length-drop 6 text in
    let d = length-drop (prefix_len is_space line) line in
    omega (arith, twelve, a, b, d)

-- a clock has no more minutes than there are up to the last day's end
to_below : (from : ℕ) (to : Option ℕ) (first past : ℕ) → minutes_to from to first past ≤ past
to_below from None first past = omega arith
to_below from (Some to) first past = omega arith

clock_below : (clock : ClockLine) (p : ℕ × ℕ) → p.1 ≤ 3_652_059 → minutes_in clock p ≤ 5_258_964_960
clock_below clock p h = omega (arith, to_below clock.from clock.to (minute_of p.0 0) (minute_of (p.1 + 1) 0), h)

one_clock : (p : ℕ × ℕ) (bytes : List ℕ) (r : Option Stamp) → p.1 ≤ 3_652_059 → clock_stamp bytes ≡ r →
    18 * minutes_of p (option_to_list (option_map (λ s. record { from = minute_at (s.day, s.time); to = option_map minute_at s.last }) r)) ≤ 5_258_964_960 * length bytes
one_clock p bytes None h e = omega arith
one_clock p bytes (Some s) h e =
    let clock : ClockLine = record { from = minute_at (s.day, s.time); to = option_map minute_at s.last } in
    omega (arith, clock_long bytes s e, clock_below clock p h, sum_by-cons (λ (c : ClockLine). minutes_in c p) clock [])

line_clocks : (p : ℕ × ℕ) (class : Class) (bytes : List ℕ) → p.1 ≤ 3_652_059 → 18 * minutes_of p (clocks_of class bytes) ≤ 5_258_964_960 * length bytes
line_clocks p Clock bytes h = one_clock p bytes (clock_stamp bytes) h refl
line_clocks p Heading bytes h = omega arith
line_clocks p Planning bytes h = omega arith
line_clocks p DrawerOpen bytes h = omega arith
line_clocks p Node bytes h = omega arith
line_clocks p DrawerEnd bytes h = omega arith
line_clocks p BlockOpen bytes h = omega arith
line_clocks p Verbatim bytes h = omega arith
line_clocks p BlockEnd bytes h = omega arith
line_clocks p Comment bytes h = omega arith
line_clocks p Setting bytes h = omega arith
line_clocks p Plain bytes h = omega arith

lines_clocks : (p : ℕ × ℕ) (at : ℕ) (ls : List (List ℕ)) (cs : List Class) → p.1 ≤ 3_652_059 →
    18 * minutes_of p (flat_map (λ (l : PlacedLine). clocks_of l.class l.bytes) (placed at ls cs)) ≤ 5_258_964_960 * length (concat ls)
lines_clocks p at [] cs h = omega arith
lines_clocks p at (l ∷ ls) [] h = omega arith
lines_clocks p at (l ∷ ls) (c ∷ cs) h =
    let rest : List ClockLine = flat_map (λ (l : PlacedLine). clocks_of l.class l.bytes) (placed (at + length l) ls cs) in
    let more : minutes_of p (flat_map (λ (l : PlacedLine). clocks_of l.class l.bytes) (placed at (l ∷ ls) (c ∷ cs))) ≡ minutes_of p (clocks_of c l) + minutes_of p rest =
    ap (minutes_of p) (flat_map-cons (λ (l : PlacedLine). clocks_of l.class l.bytes) (record { at = at; class = c; bytes = l }) (placed (at + length l) ls cs))
    ∙ sum_by-append (λ (c : ClockLine). minutes_in c p) (clocks_of c l) rest in
    omega (arith, line_clocks p c l h, lines_clocks p (at + length l) ls cs h, length-append l (concat ls), more)

entry_clocks : (settings : FileSettings) (p : ℕ × ℕ) (section : List ℕ) → p.1 ≤ 3_652_059 → 18 * clock_minutes p (entry_of settings section) ≤ 5_258_964_960 * length section
unfolding clock_minutes
entry_clocks settings p section h =
    let all = lines_clocks p 0 (lines section) (section_classes section) h in
    let whole : length (concat (lines section)) ≡ length section = ap length (concat-lines section) in
    omega (arith, all, whole)

sections_clocks : (settings : FileSettings) (p : ℕ × ℕ) (ts : List (List ℕ)) → p.1 ≤ 3_652_059 → 18 * total (clock_minutes p) (map (entry_of settings) ts) ≤ 5_258_964_960 * length (concat ts)
sections_clocks settings p [] h = omega arith
sections_clocks settings p (t ∷ ts) h =
    let one = entry_clocks settings p t h in
    let rest = sections_clocks settings p ts h in
    let both = length-append t (concat ts) in
    omega (arith, one, rest, both)

pub clocks_are_small : ClocksAreSmall
clocks_are_small settings p text h =
    let all = sections_clocks settings p (sections text) h in
    let whole : length (concat (sections text)) ≡ length text = ap length (concat-sections text) in
    omega (arith, all, whole)
