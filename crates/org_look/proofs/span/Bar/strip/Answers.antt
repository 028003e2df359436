use Rattle.std.proofs.Common.{◌≡◌, ◌∙◌, sym, ap, subst, string_bytes}
use Rattle.std.proofs.lemmas.Str.{IsUtf8-string_bytes}
use Rattle.org_look.specs.Gives.{GivesWide}
use Rattle.org_look.specs.Widths.{columns_of}
use Rattle.org_look.proofs.BarLemmas.{bars_are_wide}
use Rattle.org_look.proofs.span.Bar.strip.Goals as goal

pub returns : goal.returns
returns c =
    let bar = c.args.self.now in
    let wide : c.of.result.columns ≡ c.args.columns =
    sym c.of.result.is_wide ∙ ap (λ t. columns_of (string_bytes t)) c.of.ensures.value ∙ ap columns_of c.in_ok-text.ensures.value
    ∙ bars_are_wide c.args.signs bar.is_begun bar.goes_on c.args.columns (string_bytes bar.label) c.requires.room (IsUtf8-string_bytes bar.label) in
    record { wide = subst (GivesWide c.in_tone.result) wide c.in_tone.ensures.wide }
