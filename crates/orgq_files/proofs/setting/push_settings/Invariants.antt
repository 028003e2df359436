-- The words so far, with those of the settings that are left.
use Rattle.std.proofs.Common.{◌≡◌, ◌++◌, drop, map, string_bytes}
use Rattle.orgq_files.specs.Settings.{own_words}
use Rattle.orgq_files.proofs.setting.push_settings.Given as goal

abbrev pub invariant-loop-setting : goal.invariant-loop-setting
invariant-loop-setting l =
    map string_bytes l.all.items ++ own_words l.named (drop l.setting-index l.settings) ≡ map string_bytes l.fn.all.items ++ own_words l.named l.settings
