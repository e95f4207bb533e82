-- What a value of `Settings` stands for. Assumes nothing: this is a definition.
use Rattle.std.specs.Prelude.{ℕ, List}
use Rattle.settings.specs.declared.settings.Settings.{Settings}
use Rattle.settings.specs.Tried.{left}

-- the settings that are left to give
abbrev pub settings_left : Settings → List ℕ
settings_left s = left s.hidden.bits s.next
