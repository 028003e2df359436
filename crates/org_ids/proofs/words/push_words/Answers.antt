-- A title without brackets is the same beside its cookies.
use Rattle.std.proofs.Common.{◌∙◌, ℕ, false, List, ◌++◌, sym, ap}
use Rattle.std.proofs.lemmas.Result.{on_ok_weaker}
use Rattle.org_ids.specs.Names.{bounded}
use Rattle.org_ids.specs.Words.{words_text}
use Rattle.org_ids.proofs.WordLemmas.{no_cookies}
use Rattle.org_ids.proofs.words.push_words.Goals as goal

pub returns : goal.returns
returns c =
    let none = sym c.contains.ensures.value ∙ c.if-contains.false in
    record {
      ok = on_ok_weaker c.push_blanked-2.result
          (λ e. e ∙ ap (λ (x : List ℕ). bounded (c.args.out.now.items ++ words_text false false x)) (sym (no_cookies c.args.title.now none)))
          c.push_blanked-2.ensures.ok;
    }
