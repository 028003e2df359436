-- The text of the section is summed where it has to be.
use Rattle.std.proofs.Common.{◌≡◌, ◌∙◌, ℕ, List, sym, ap}
use Rattle.org_client.specs.Files.{own_section}
use Rattle.org_client.specs.HeadingNames.{name_at}
use Rattle.org_ids.specs.Counts.{is_among_twice, is_twice, number_of}
use Rattle.org_ids.specs.Letters.{sum_of}
use Rattle.org_ids.specs.Names.{with_text}
use Rattle.org_client.proofs.IdNameLemmas.{no_text, repeated_is}
use Rattle.org_client.proofs.heading_names.HeadingNames.sum.Goals as goal

pub returns-then-not-has_text : goal.returns-then-not-has_text
returns-then-not-has_text g c = record {
  value = λ counted.
      let names = c.args.self.now in
      let name : List ℕ = name_at names c.args.section in
      let section = own_section c.args.file.now c.args.section in
      let is : c.get-name.result.now ≡ name = c.get-name.ensures.value in
      let repeated : c.is_repeated-is_repeated.result ≡ is_among_twice name names.names =
      repeated_is c.args.counts.now names.names name c.is_repeated-is_repeated.result (c.is_repeated-is_repeated.ensures.value ∙ ap (λ (n : List ℕ). is_twice (number_of c.args.counts.now n)) is) counted in
      let none = sym c.has_text.ensures.value ∙ c.if-not-has_text.true in
      c.sum_of.ensures.value
      ∙ ap sum_of (sym (no_text c.get-name.result.now section c.is_repeated-is_repeated.result none))
      ∙ (λ i. sum_of (with_text (is i) (repeated i) section));
}

pub returns : goal.returns
returns g c = record {
  value = λ counted.
      let names = c.args.self.now in
      let name : List ℕ = name_at names c.args.section in
      let is : c.get-name.result.now ≡ name = c.get-name.ensures.value in
      let repeated : c.is_repeated-is_repeated.result ≡ is_among_twice name names.names =
      repeated_is c.args.counts.now names.names name c.is_repeated-is_repeated.result (c.is_repeated-is_repeated.ensures.value ∙ ap (λ (n : List ℕ). is_twice (number_of c.args.counts.now n)) is) counted in
      let text = c.as_slice.ensures.value ∙ c.in_ok-text.ensures.value in
      c.in_ok-sum_with.ensures.value ∙ (λ i. sum_of (with_text (is i) (repeated i) (text i)));
}
