use Rattle.std.proofs.Common.{◌≡◌, ◌∙◌, ap, sym}
use Rattle.org_search.specs.Built.{sought_of}
use Rattle.org_search.specs.Folded.{stands_in}
use Rattle.org_search.specs.Holds.{line_holds}
use Rattle.org_search.specs.Typed as typed
use Rattle.org_search.specs.declared.search.Sought.{Sought}
use Rattle.org_search.proofs.LineLemmas.{finds_word}
use Rattle.org_search.proofs.scan.TermScan.is_in_line.Goals as goal

pub returns-in_ok-put_folded-in-Word-clause-value : goal.returns-in_ok-put_folded-in-Word-clause-value
returns-in_ok-put_folded-in-Word-clause-value c =
    let same : typed.Word c.in-Word.finder ≡ c.args.self.now.sought =
    sym (ap (λ (s : Sought). sought_of s) c.in-Word.is) ∙ ap (λ (a : typed.Asked). a.sought) c.self.view_is in
    c.is_some.ensures
    ∙ finds_word c.as_bytes.result.now c.in-Word.finder _ c.find.ensures
    ∙ ap (stands_in c.in-Word.finder) (c.as_bytes.ensures.value ∙ c.in_ok-put_folded-in-Word.ensures.value)
    ∙ ap (λ (s : typed.Sought). line_holds s c.args.line.now) same
