-- The settings of a challenge that are asked for. Assumes nothing: these are definitions.
--     default_of places                            40 places, as many for the schedule as the policy has, ten rounds, LRU
--     settings_with places rival rounds policy own  what is given, and else what the settings of a file say, or the default; a number that has
--                                                  no room in its bytes is as large as it can be
use Rattle.std.specs.Prelude.{ℕ, min, Option}
use Rattle.std.specs.Option.{unwrap_or}
use Rattle.trace.specs.declared.settings.Settings.{Settings}

abbrev pub default_of : Option ℕ → Settings
default_of places = record { capacity = 40; places = min (unwrap_or places 40) 65535; rounds = 10; policy = 0 }

abbrev pub given_over : Option ℕ → Option ℕ → Option ℕ → Option ℕ → Settings → Settings
given_over places rival rounds policy base =
    record {
      capacity = min (unwrap_or places base.capacity) 65535;
      places = min (unwrap_or rival base.places) 65535;
      rounds = min (unwrap_or rounds base.rounds) 65535;
      policy = min (unwrap_or policy base.policy) 255;
    }

abbrev pub settings_with : Option ℕ → Option ℕ → Option ℕ → Option ℕ → Option Settings → Settings
settings_with places rival rounds policy own = given_over places rival rounds policy (unwrap_or own (default_of places))
