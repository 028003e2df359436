use Rattle.std.proofs.Common.{◌∙◌, ◌∷◌, ◌++◌, [], ap, append_assoc, string_bytes}
use Rattle.org_stamp.specs.Print.{day_text}
use Rattle.org_stamp.specs.Stamp.{open_of}
use Rattle.org_stamp.proofs.print.push_start.Goals as goal

pub returns : goal.returns
returns c =
    record {
      ok = c.in_ok-push_day.ensures.ok
          ∙ (ap (λ t. t ++ day_text c.args.day) c.in_ok-push_open.ensures.ok
          ∙ append_assoc (string_bytes c.args.out.now) (open_of c.args.active ∷ []) (day_text c.args.day));
    }
