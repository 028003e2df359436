-- What is found of a section lies in it.
use Rattle.std.proofs.Common.{◌≡◌, ◌≤◌, ◌<◌, ℕ, ◌+◌, List, [], ◌∷◌, ◌++◌, length, refl, sym, ap, subst, ◌∙◌, arith, length-append}
use Rattle.std.specs.Prelude.{Option, Some, None, IfSome, slice_get}
use Rattle.std.specs.List.{concat}
use Rattle.std.proofs.lemmas.Bool.{cond_both}
use Rattle.std.proofs.lemmas.List.Folds.{concat-append}
use Rattle.org_amend.specs.Cancelled.{closing_len}
use Rattle.org_amend.specs.Clocks.{running_in, stamp_end}
use Rattle.org_amend.specs.Laws.{IsFirst}
use Rattle.org_amend.specs.Places.{front_end, front_in, is_front, logbook_in}
use Rattle.org_amend.specs.Within.{IsWithin, LiesInside}
use Rattle.org_amend.specs.declared.place.DrawerName.TheVariants.{Logbook}
use Rattle.org_amend.specs.declared.running.RunningClock.{RunningClock}
use Rattle.org_amend.proofs.DrawerLemmas.{found_within}
use Rattle.org_amend.proofs.EndLemmas.{stamp_end_within}
use Rattle.org_amend.proofs.RunningLemmas.{found_clocks_run}
use Rattle.org_base.specs.Spans.{bytes_in}
use Rattle.org_base.specs.declared.span.Span.{Span}
use Rattle.org_class.specs.Drawers.{is_drawer_end}
use Rattle.org_class.specs.declared.class.Class.{Class}
use Rattle.org_lines.specs.Cuts.{lines_in}
use Rattle.org_lines.proofs.LineLemmas.{concat-lines, length_range}

-- lines, of which the first begins at a place, end no later than at a limit
abbrev pub EndBy : ℕ → List (List ℕ) → ℕ → Type 0
EndBy at ls end = at + length (concat ls) ≤ end

-- the front

front_ends : (cs : List Class) (place at end : ℕ) (ls : List (List ℕ)) → EndBy at ls end → front_end cs place at ls ≤ end
unfolding front_end
front_ends cs place at end [] h = omega arith
front_ends cs place at end (l ∷ ls) h =
    cond_both (is_front (slice_get cs place)) (front_end cs (place + 1) (at + length l) ls) at (λ n. n ≤ end)
    (λ _. front_ends cs (place + 1) (at + length l) end ls (omega (arith, length-append l (concat ls))))
    (λ _. omega arith)

-- the lines of a section end where it does
lines_end : (text : List ℕ) (section : Span) → section.at + section.len ≤ length text → EndBy section.at (lines_in text section) (section.at + section.len)
lines_end text section h =
    let long : length (concat (lines_in text section)) ≡ section.len = ap length (concat-lines (bytes_in text section)) ∙ length_range text section.at section.len h in
    omega (arith, long)

pub logbook_within : (text : List ℕ) (section : Span) (cs : List Class) → section.at + section.len ≤ length text → LiesInside section (logbook_in text section cs)
logbook_within text section cs h = found_within Logbook cs 0 section (lines_in text section) (logbook_in text section cs) (lines_end text section h) refl

pub front_within : (text : List ℕ) (section : Span) (cs : List Class) → section.at + section.len ≤ length text → front_in text section cs ≤ section.at + section.len
front_within text section cs h = front_ends cs 0 section.at (section.at + section.len) (lines_in text section) (lines_end text section h)

-- the first running clock
first_within : (cs : List Class) (place : ℕ) (section : Span) (ls : List (List ℕ)) (r : RunningClock) → EndBy section.at ls (section.at + section.len) → IsFirst cs place section.at ls r → IsWithin section r
first_within cs place section ls r ends h =
    let whole : length (concat ls) ≡ length (concat h.before) + (length h.line + length (concat h.after)) =
    ap (λ (x : List (List ℕ)). length (concat x)) h.lines_are ∙ (ap length (concat-append h.before (h.line ∷ h.after)) ∙ simp length-append) in
    let stamp : stamp_end h.line ≤ length h.line = stamp_end_within h.line in
    record {
      low = omega (arith, h.at_is);
      high = omega (arith, h.at_is, h.len_is, whole, ends);
      stamp_low = omega (arith, h.end_is);
      stamp_high = omega (arith, h.end_is, h.len_is, stamp);
    }

pub running_within : (text : List ℕ) (section : Span) (cs : List Class) (r : RunningClock) → section.at + section.len ≤ length text → running_in text section cs ≡ Some r → IsWithin section r
running_within text section cs r h found =
    first_within cs 0 section (lines_in text section) r (lines_end text section h) (found_clocks_run cs 0 section.at (lines_in text section) r found)

-- the same of what is found
pub running_found : (text : List ℕ) (section : Span) (cs : List Class) (found : Option RunningClock) → section.at + section.len ≤ length text → found ≡ running_in text section cs → IfSome found (IsWithin section)
running_found text section cs None h e = tt
running_found text section cs (Some r) h e = running_within text section cs r h (sym e)

-- a drawer that is found ends before a limit
pub drawer_ends : (section : Span) (wanted found : Option Span) (limit : ℕ) → LiesInside section wanted → section.at + section.len < limit → found ≡ wanted → IfSome found (λ line. line.at + line.len < limit)
drawer_ends section wanted None limit h le e = tt
drawer_ends section wanted (Some line) limit h le e = let inside : LiesInside section (Some line) = subst (LiesInside section) (sym e) h in omega (arith, inside.1)

-- the end of a drawer is no longer than what stands there
closing_short : (ls : List (List ℕ)) → closing_len ls ≤ length (concat ls)
closing_short [] = omega arith
closing_short (l ∷ ls) = cond_both (is_drawer_end l) (length l) 0 (λ n. n ≤ length (l ++ concat ls)) (λ _. omega (arith, length-append l (concat ls))) (λ _. omega arith)

pub closing_within : (text : List ℕ) (rest : Span) → rest.at + rest.len ≤ length text → closing_len (lines_in text rest) ≤ rest.len
closing_within text rest h =
    let short = closing_short (lines_in text rest) in
    let ends = lines_end text rest h in
    omega (arith, short, ends)
