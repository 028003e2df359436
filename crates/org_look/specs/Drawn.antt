-- Bars as they are drawn.
use Rattle.std.specs.Prelude.{ℕ, List}
use Rattle.std.specs.String.{string_bytes}
use Rattle.org_look.specs.Bars.{bar_text}
use Rattle.org_look.specs.declared.span.Bar.{Bar}
use Rattle.org_look.specs.declared.sign.Signs.{Signs}

-- a bar in so many columns
abbrev pub drawn : Signs → ℕ → Bar → List ℕ
drawn signs columns bar = bar_text signs bar.is_begun bar.goes_on columns (string_bytes bar.label)
