-- Worked examples: what the definitions say of inputs at which a wrong rule says something else.
use Rattle.std.specs.Prelude.{◌≡◌, [], ◌∷◌, ◌++◌, false, true, codes}
use Rattle.std.specs.List.{flat_map}
use Rattle.org_look.specs.declared.sheet.Tone.TheVariants.{File, Late, Plain, Soon}
use Rattle.org_agenda.specs.declared.row.RowKind.TheVariants.{LateDeadline, OnDeadline, Warning}
use Rattle.org_answer.specs.Painted.{painted_text, part_bytes, tone_color}
use Rattle.org_answer.specs.Shown.{kind_color, shown_line}

-- late is red and due soon is yellow, in lists and in pictures alike, and what isn't coloured stands bare. Six files have colours
-- of their own, the seventh has the first one's. A colour ends behind its part, and in a line before the line feed (ECMA-48, "SGR")
pub record ExamplesHold : Type 0 where
  pub late_alike : kind_color false LateDeadline ≡ tone_color Late
  pub soon_alike : kind_color false Warning ≡ tone_color Soon
  pub due_alike : kind_color true OnDeadline ≡ tone_color Soon
  pub seventh_file : tone_color (File 6) ≡ tone_color (File 0)
  pub sixth_file : tone_color (File 5) ≡ 27 ∷ codes "[92m"
  pub bare_part : painted_text false Plain (codes "10:30") ≡ codes "10:30"
  pub late_part : painted_text false Late (codes "2 late") ≡ 27 ∷ codes "[31m2 late" ++ 27 ∷ codes "[0m"
  pub parts_in_turn : flat_map (part_bytes false) (record { tone = Late; text = codes "!" } ∷ record { tone = Plain; text = codes " a" } ∷ []) ≡ 27 ∷ codes "[31m!" ++ 27 ∷ codes "[0m a"
  pub bare_line : shown_line (kind_color false OnDeadline) false (codes "a") ≡ codes "a\n"
  pub late_line : shown_line (kind_color false LateDeadline) false (codes "a") ≡ 27 ∷ codes "[31ma" ++ 27 ∷ codes "[0m\n"
