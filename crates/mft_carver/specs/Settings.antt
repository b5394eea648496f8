-- The limits that image carving goes by when it is called.
use Rattle.mft_carver.specs.declared.Settings.{Settings}

-- entries of 1024 bytes, of which 20 attributes are walked
abbrev pub standard : Settings
standard = record { size = 1024; first_low = 48; first_high = 1015; walked = 20 }
