-- The settings of a challenge: three numbers of two bytes each, low byte first, and the policy's number in one byte. Assumes nothing: these
-- are definitions.
--     settings_of bytes     the settings that the bytes are, where they are seven
use Rattle.std.specs.Prelude.{ℕ, ◌+◌, ◌*◌, List, [], ◌∷◌, Some, None, Option}
use Rattle.trace.specs.declared.settings.Settings.{Settings}

abbrev pub settings_of : List ℕ → Option Settings
settings_of [] = None
settings_of (a ∷ []) = None
settings_of (a ∷ b ∷ []) = None
settings_of (a ∷ b ∷ c ∷ []) = None
settings_of (a ∷ b ∷ c ∷ d ∷ []) = None
settings_of (a ∷ b ∷ c ∷ d ∷ e ∷ []) = None
settings_of (a ∷ b ∷ c ∷ d ∷ e ∷ f ∷ []) = None
settings_of (a ∷ b ∷ c ∷ d ∷ e ∷ f ∷ g ∷ []) =
    Some (record { capacity = a + 256 * b; places = c + 256 * d; rounds = e + 256 * f; policy = g })
settings_of (a ∷ b ∷ c ∷ d ∷ e ∷ f ∷ g ∷ h ∷ rest) = None
