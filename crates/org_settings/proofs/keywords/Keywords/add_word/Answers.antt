-- A word that is there stays as it is; another one is put after all.
use Rattle.std.proofs.Common.{◌≡◌, false, ◌++◌, ◌∷◌, [], ap, ap₂, sym, ◌+◌, ◌∙◌}
use Rattle.std.specs.Prelude.{is_some}
use Rattle.std.proofs.lemmas.List.{length-append}
use Rattle.org_settings.specs.Keywords.{without_parens, keyword_place}
use Rattle.org_settings.specs.declared.keywords.KeywordKind.{KeywordKind}
use Rattle.org_settings.specs.KeywordKinds.{shown}
use Rattle.org_settings.proofs.KeywordLemmas.{shown-append, added, kept}
use Rattle.org_settings.proofs.keywords.Keywords.add_word.Goals as goal

pub returns-then-is_some : goal.returns-then-is_some
returns-then-is_some c =
    record {
      ok =
          let ks = c.args.self.now in
          let w = c.args.word.now in
          sym (kept c.args.is_done c.args.first ks w (sym c.is_named.ensures.value ∙ c.if-not-is_named.false)
          (sym (c.is_some.ensures ∙ ap is_some (c.place.ensures.value ∙ ap (keyword_place ks) c.without_parens-word.ensures.value)) ∙ c.if-is_some.true));
    }

pub invariant_of-self-2 : goal.invariant_of-self-2
invariant_of-self-2 c =
    let s : KeywordKind = record { is_done = c.args.is_done; first = c.args.first } in
    let ws = c.self.inside.words in
    let ss = c.self.inside.kinds.items in
    let kinds = c.push_reserved.ensures.items ∙ ap (λ xs. xs ++ s ∷ []) c.in_ok-reserve.ensures.items in
    rw (c.in_ok-add.ensures.ok, kinds, length-append ws (c.in_ok-word.word.items ∷ []), length-append ss (s ∷ [])) (ap (λ n. n + 1) c.self.invariant)

pub returns : goal.returns
returns c =
    record {
      ok =
          let ks = c.args.self.now in
          let w = c.args.word.now in
          let s : KeywordKind = record { is_done = c.args.is_done; first = c.args.first } in
          let ws = c.self.inside.words in
          let ss = c.self.inside.kinds.items in
          let kinds = c.push_reserved.ensures.items ∙ ap (λ xs. xs ++ s ∷ []) c.in_ok-reserve.ensures.items in
          let word : c.in_ok-word.word.items ≡ without_parens w = c.in_ok-word.ensures.items ∙ c.without_parens-word.ensures.value in
          let new : is_some (keyword_place ks c.without_parens-word.result.now) ≡ false = sym (c.is_some.ensures ∙ ap is_some c.place.ensures.value) ∙ c.if-is_some.false in
          ap₂ shown c.in_ok-add.ensures.ok kinds
          ∙ shown-append ws ss c.in_ok-word.word.items s c.self.invariant
          ∙ ap (λ q. q ++ record { word = c.in_ok-word.word.items; done = c.args.is_done; first = c.args.first } ∷ []) c.self.view_is
          ∙ ap (λ q. ks ++ record { word = q; done = c.args.is_done; first = c.args.first } ∷ []) word
          ∙ sym (added c.args.is_done c.args.first ks w (sym c.is_named.ensures.value ∙ c.if-not-is_named.false)
          (ap (λ q. is_some (keyword_place ks q)) (sym c.without_parens-word.ensures.value) ∙ new));
    }
