-- One section further back, unless a heading line stands where the first one begins.
use Rattle.std.proofs.Common.{◌∙◌, ap, arith, map, take}
use Rattle.std.specs.List.{sum_by}
use Rattle.std.proofs.lemmas.Bool.{ne_eqb}
use Rattle.org_store.specs.Sections.{section_len}
use Rattle.org_store.proofs.TouchedLemmas.{ended_few, ended_low, ended_start, first_headed, first_headless, first_none}
use Rattle.org_store.proofs.touched.first_touched.Goals as goal

pub returns-then-first-eq0 : goal.returns-then-first-eq0
returns-then-first-eq0 g c = record { value = first_none (map section_len c.args.list.now) (g.T.Text.content c.args.new.now) c.args.at c.ended_before-first.result c.ended_before-first.ensures.value (omega (arith, c.if-first-eq0.true)) }

pub size_before-start-requires : goal.size_before-start-requires
size_before-start-requires g c = omega (arith, c.ended_before-first.ensures.value, ended_few c.args.list.now c.args.at)

pub has_heading_at-requires : goal.has_heading_at-requires
has_heading_at-requires g c =
    let low = ended_low c.args.list.now c.args.at in
    record { within = omega (arith, c.size_before-start.ensures.value, ap (λ n. sum_by section_len (take n c.args.list.now)) c.ended_before-first.ensures.value, low, c.requires.there) }

pub returns-then-has_heading_at : goal.returns-then-has_heading_at
returns-then-has_heading_at g c = record {
  value = first_headed (map section_len c.args.list.now) (g.T.Text.content c.args.new.now) c.args.at c.ended_before-first.result c.size_before-start.result c.has_heading_at.result c.ended_before-first.ensures.value
      (c.size_before-start.ensures.value ∙ ended_start c.args.list.now c.ended_before-first.result) c.has_heading_at.ensures.value c.if-has_heading_at.true;
}

pub returns : goal.returns
returns g c = record {
  value = first_headless (map section_len c.args.list.now) (g.T.Text.content c.args.new.now) c.args.at c.ended_before-first.result c.size_before-start.result c.has_heading_at.result c.ended_before-first.ensures.value
      (c.size_before-start.ensures.value ∙ ended_start c.args.list.now c.ended_before-first.result) c.has_heading_at.ensures.value c.if-has_heading_at.false (ne_eqb c.ended_before-first.result 0 (λ e. omega (arith, e, c.if-first-eq0.false)));
}
