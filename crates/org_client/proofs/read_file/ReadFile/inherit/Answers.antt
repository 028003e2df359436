-- What the outline says is what the text says.
use Rattle.std.proofs.Common.{◌≡◌, ◌∙◌, ◌≤◌, ap, length, subst}
use Rattle.org_store.specs.Outline.{outline_of, scope_in}
use Rattle.org_client.specs.Files.{NamedText, scope_of}
use Rattle.org_client.proofs.FileLemmas.{given_as, heads_of, scope_eq, text_of}
use Rattle.org_client.proofs.read_file.ReadFile.inherit.Goals as goal
use Rattle.org_text.specs.Replace.{max_bytes}

pub returns-clause-value : goal.returns-clause-value
returns-clause-value g c =
    let f = c.args.self.now in
    let said : c.self.inside.outline ≡ outline_of f.text = c.self.invariant.said ∙ ap (λ (v : NamedText). outline_of v.text) c.self.view_is in
    let named : c.as_str.result.now ≡ f.name = c.as_str.ensures.value ∙ ap (λ (v : NamedText). v.name) c.self.view_is in
    given_as c.inherit.result (scope_in c.self.inside.outline c.as_str.result.now c.args.inherited.now) (scope_of c.args.inherited.now f)
    (scope_eq c.self.inside.outline c.as_str.result.now c.args.inherited.now f said named) c.inherit.ensures.value

pub returns-clause-heads : goal.returns-clause-heads
returns-clause-heads g c = heads_of c.inherit.result c.args.inherited.now c.args.self.now (returns-clause-value g c)

pub returns-clause-text : goal.returns-clause-text
returns-clause-text g c =
    let short : length c.args.self.now.text ≤ max_bytes = subst (λ (v : NamedText). length v.text ≤ max_bytes) c.self.view_is c.self.invariant.short in
    text_of c.inherit.result c.args.inherited.now c.args.self.now short (returns-clause-value g c)
