-- Settings that answer alike.
use Rattle.std.specs.List.{flat_map}
use Rattle.org_base.proofs.TextLemmas.{same_texts_are_same_values}
use Rattle.org_settings.specs.Alike.{AlikeSayTheSame}
use Rattle.org_settings.specs.SettingLines.{property_in}

pub alike_say_the_same : AlikeSayTheSame
alike_say_the_same ones others =
    let both = same_texts_are_same_values (flat_map property_in ones) (flat_map property_in others) in (
      λ alike. record {
        keywords = alike.keywords;
        file_tags = alike.file_tags;
        category = alike.category;
        default_priority = alike.default_priority;
        values = both.0 alike.properties;
      },
      λ same. record {
        keywords = same.keywords;
        file_tags = same.file_tags;
        category = same.category;
        default_priority = same.default_priority;
        properties = both.1 same.values;
      },
    )
