use Rattle.std.proofs.Common.{◌≡◌, ◌-◌, List, ℕ, true, false, sym, ap, ◌∙◌}
use Rattle.orgls_text.specs.Positions.{is_beyond, offset_of}
use Rattle.orgls_text.proofs.ChangeLemmas.{edited_at, refused_range, whole_run}
use Rattle.org_base.specs.declared.code.Code.TheVariants.{Range}
use Rattle.org_base.specs.declared.fault.Fault.TheVariants.{Plain}
use Rattle.orgls_text.proofs.change.replace.Goals as goal

pub returns-then-is_beyond : goal.returns-then-is_beyond
returns-then-is_beyond c =
    let order : is_beyond c.args.range.start c.args.range.end ≡ true = sym c.is_beyond.ensures.value ∙ c.if-is_beyond.true in
    record { value = refused_range _ c.args.encoding c.args.text.now c.args.range c.args.ins.now (Plain Range) order }

pub returns : goal.returns
returns c =
    let order : is_beyond c.args.range.start c.args.range.end ≡ false = sym c.is_beyond.ensures.value ∙ c.if-is_beyond.false in
    let t = c.args.text.now in
    let whole = whole_run t c.piece_at-bytes.result.now c.piece_at-bytes.ensures.len c.piece_at-bytes.ensures.value in
    let first : c.offset_of-start.result ≡ offset_of c.args.encoding t c.args.range.start =
    c.offset_of-start.ensures.value ∙ ap (λ (b : List ℕ). offset_of c.args.encoding b c.args.range.start) whole in
    let last : c.offset_of-end.result ≡ offset_of c.args.encoding t c.args.range.end =
    c.offset_of-end.ensures.value ∙ ap (λ (b : List ℕ). offset_of c.args.encoding b c.args.range.end) whole in
    let between : c.saturating_sub.result ≡ offset_of c.args.encoding t c.args.range.end - offset_of c.args.encoding t c.args.range.start =
    c.saturating_sub.ensures ∙ ap (λ n. n - c.offset_of-start.result) last ∙ ap (λ n. offset_of c.args.encoding t c.args.range.end - n) first in
    record {
      value = edited_at c.args.encoding t c.edit.new.self c.args.range c.args.ins.now c.edit.result c.offset_of-start.result c.saturating_sub.result
          c.len-len.ensures.utf8 order first between c.edit.ensures.ok c.edit.ensures.refused;
    }
