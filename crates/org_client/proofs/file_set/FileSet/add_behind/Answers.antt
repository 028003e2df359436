-- What is put after the others is of another path.
use Rattle.std.proofs.Common.{◌≡◌, ap, rules, subst, sym, string_bytes}
use Rattle.org_client.specs.Files.{AreDifferent, IsNew, FileSetView, NamedText}
use Rattle.org_client.proofs.FileLemmas.{different_more}
use Rattle.org_client.proofs.file_set.FileSet.add_behind.Goals as goal

pub returns-clause-new : goal.returns-clause-new
returns-clause-new g c = subst (λ p. IsNew p c.args.self.now.files) c.as_str.ensures.value (c.has.ensures.some c.if-has.false)

pub returns-clause-taken : goal.returns-clause-taken
returns-clause-taken g c = λ absent. absurd (absent (returns-clause-new g c))

pub invariant_of-self-2 : goal.invariant_of-self-2
invariant_of-self-2 g c =
    let file : NamedText = c.in_ok-file.file in
    let path : file.path ≡ string_bytes c.args.path = ap (λ (f : NamedText). f.path) c.in_ok-file.ensures.value in
    let files : c.self.inside.files.items ≡ c.args.self.now.files = ap (λ (v : FileSetView). v.files) c.self.view_is in
    let own : IsNew file.path c.args.self.now.files = subst (λ p. IsNew p c.args.self.now.files) (sym path) (returns-clause-new g c) in
    let new : IsNew file.path c.self.inside.files.items = subst (IsNew file.path) (sym files) own in
    record {
      few = search rules;
      different = subst AreDifferent (sym c.in_ok-push.ensures.items) (different_more c.self.inside.files.items file c.self.invariant.different new);
    }
