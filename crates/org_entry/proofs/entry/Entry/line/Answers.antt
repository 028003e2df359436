-- The first line ends with the first line feed, or with the text.
use Rattle.std.proofs.Common.{◌∙◌, ap, sym}
use Rattle.org_entry.proofs.LineLemmas.{first, up_to_feed, no_feed}
use Rattle.org_entry.proofs.entry.Entry.line.Goals as goal

pub returns-in-Some : goal.returns-in-Some
returns-in-Some c = record {
  value = up_to_feed c.as_slice-text.result.now c.in-Some.place (sym c.in-Some.ensures.value) ∙ ap first c.as_slice-text.ensures.value;
}

pub returns-in-None : goal.returns-in-None
returns-in-None c = record {
  value = no_feed c.as_slice-text.result.now (sym c.in-None.ensures.value) ∙ ap first c.as_slice-text.ensures.value;
}
