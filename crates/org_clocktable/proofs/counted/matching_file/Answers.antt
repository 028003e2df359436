use Rattle.std.proofs.Common.{◌∙◌, List, ap, length, subst, sym}
use Rattle.org_agenda.proofs.HoldLemmas.{length-holds_of}
use Rattle.org_entry.specs.declared.entry.Entry.{Entry}
use Rattle.org_sum.specs.Texts.{AreOfText}
use Rattle.org_clocktable.proofs.counted.matching_file.Goals as goal

pub new-requires : goal.new-requires
new-requires c =
    let outline = c.outline.ensures.value in
    record {
      counted = record {
        count = ap length c.in_ok-counted.ensures.value ∙ length-holds_of c.args.matcher.now c.args.moment.now c.args.inherit.now ∙ sym (ap length outline);
        text = subst (λ (es : List Entry). AreOfText es) (sym outline) c.requires.text;
      };
    }
