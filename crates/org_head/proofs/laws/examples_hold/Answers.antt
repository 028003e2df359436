use Rattle.std.proofs.Common.{refl, ap, sym, ltb-true, ◌||◌, ◌&&◌, ◌==◌, true}
use Rattle.std.specs.Str.{chars}
use Rattle.org_head.proofs.PlainTags.{alphanumeric}
use Rattle.org_head.specs.Parts.{is_colon}
use Rattle.org_head.proofs.laws.examples_hold.Goals as goal

pub returns : goal.returns
unfolding chars
returns c = record {
  default_of_the_file = refl;
  no_minus = ap (λ a. ((a || (45 == 95 || (45 == 64 || (45 == 35 || 45 == 37)))) || is_colon 45) && true) (sym (alphanumeric 45 (ltb-true 45 128 refl)));
}
