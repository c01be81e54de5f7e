-- The records of a payload.
use Rattle.std.specs.Prelude.{List}
use Rattle.csv.specs.Reading.{default_config, records, strip_bom}
use Rattle.gl_language.specs.Texts.Text.{Bytes}
use Rattle.gl_protocol.specs.Scripts.Commands.{without_mark}

-- the records of a text as the crate `csv` reads them, which drops one byte order mark of its own
abbrev pub csv_records : Bytes → List (List Bytes)
csv_records text = records default_config (strip_bom text)

-- the records of a payload, whose byte order mark is dropped
abbrev pub records_of : Bytes → List (List Bytes)
records_of payload = csv_records (without_mark payload)
