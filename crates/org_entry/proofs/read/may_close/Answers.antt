-- Without a closing bracket in what is lent of it, there is none in the rest of the section.
use Rattle.std.proofs.Common.{◌∙◌, sym, ap, rules}
use Rattle.std.specs.List.{list_any}
use Rattle.org_class.proofs.LineLemmas.{bytes_behind}
use Rattle.org_stamp.specs.Stamp.{is_close}
use Rattle.org_entry.proofs.QuietLemmas.{unclosed}
use Rattle.org_entry.proofs.read.may_close.Goals as goal

pub returns-in-Some : goal.returns-in-Some
returns-in-Some g c =
    let t = g.T.Text.content c.args.text.now in
    record {
      none = λ unmet.
          ap (list_any is_close) (bytes_behind t c.args.section c.args.at c.requires.place ∙ sym c.in-Some.ensures.value)
          ∙ unclosed c.in-Some.bytes.now c.memchr2.result c.memchr2.ensures (sym c.is_some.ensures ∙ unmet);
    }

pub returns-in-None : goal.returns-in-None
returns-in-None g c = search rules
