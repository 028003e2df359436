-- One line more of an iterator over lines.
use Rattle.std.proofs.Common.{◌≡◌, ℕ, ◌+◌, ◌-◌, ◌≤◌, cond, List, [], ◌∷◌, ◌++◌, map, length, sym, ap, ◌∙◌, append_assoc}
use Rattle.org_base.specs.declared.span.Span.{Span}
use Rattle.org_lines.specs.Cuts.{Cut, lines}
use Rattle.org_class.specs.Blocks.{ends_block}
use Rattle.org_base.specs.Spans.{bytes_in}
use Rattle.org_class.specs.Stages.{classes_at}
use Rattle.org_class.specs.declared.class.Class.{Class}
use Rattle.org_class.specs.declared.stage.Stage.{Stage}
use Rattle.org_class.proofs.EndLemmas.{last_behind, last_more}
use Rattle.org_class.proofs.LineLemmas.{part_behind}

abbrev pub bytes_of : List Cut → List (List ℕ)
bytes_of cuts = map (λ c. c.bytes) cuts

-- the number of a name's last end line so far, or among the lines left
pub end_more : (name : List ℕ) (old new n all : ℕ) (s t : List Cut) (cut : Cut) (line : List ℕ) → s ≡ cut ∷ t → line ≡ cut.bytes → new ≡ cond (ends_block name line) (n + 1) old → last_behind old n (ends_block name) (bytes_of s) ≡ all → last_behind new (n + 1) (ends_block name) (bytes_of t) ≡ all
end_more name old new n all s t cut line first is note_lines so_far =
    ap (λ v. last_behind v (n + 1) (ends_block name) (bytes_of t)) (note_lines ∙ ap (λ b. cond (ends_block name b) (n + 1) old) is)
    ∙ sym (last_more old n (ends_block name) cut.bytes (bytes_of t))
    ∙ ap (λ x. last_behind old n (ends_block name) (bytes_of x)) (sym first)
    ∙ so_far

-- the part of a text after a line
pub record Passed (t : List ℕ) (part : Span) (n : ℕ) (ls : List (List ℕ)) : Type 0 where
  pub within : n ≤ part.len
  pub behind : lines (bytes_in t (record { at = part.at + n; len = part.len - n })) ≡ ls

pub passed : (text : List ℕ) (part : Span) (s t : List Cut) (cut : Cut) (n : ℕ) → part.at + part.len ≤ length text → lines (bytes_in text part) ≡ bytes_of s → s ≡ cut ∷ t → n ≡ length cut.bytes → Passed text part n (bytes_of t)
passed text part s t cut n inside left first count =
    let p = part_behind text cut.bytes (bytes_of t) part inside (left ∙ ap bytes_of first) in
    rw count (record { within = p.within; behind = p.behind })

-- the classes so far, and those of the lines left at a stage
pub class_more : (done new all : List Class) (class : Class) (now next : Stage) (s t : List Cut) (cut : Cut) (line : List ℕ) (ahead : List (List ℕ)) → s ≡ cut ∷ t → line ≡ cut.bytes → ahead ≡ bytes_of t → classes_at now (line ∷ ahead) ≡ class ∷ classes_at next ahead → new ≡ done ++ class ∷ [] → done ++ classes_at now (bytes_of s) ≡ all → new ++ classes_at next (bytes_of t) ≡ all
class_more done new all class now next s t cut line ahead first is behind step pushed so_far =
    ap (λ cs. cs ++ classes_at next (bytes_of t)) pushed
    ∙ append_assoc done (class ∷ []) (classes_at next (bytes_of t))
    ∙ ap (λ ls. done ++ class ∷ classes_at next ls) (sym behind)
    ∙ ap (λ cs. done ++ cs) (sym step)
    ∙ ap (λ l. done ++ classes_at now (l ∷ ahead)) is
    ∙ ap (λ ls. done ++ classes_at now (cut.bytes ∷ ls)) behind
    ∙ ap (λ x. done ++ classes_at now (bytes_of x)) (sym first)
    ∙ so_far
