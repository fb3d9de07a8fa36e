-- What a zone says: nothing for UTC, else what the grammars read from its bytes, that of a POSIX rule
-- (POSIX.1, TZ, with the extension of RFC 9636) or that of a zone file (TZif, RFC 9636).
use Rattle.jiff_tz.specs.PosixText.{TzText}
use Rattle.jiff_tz.specs.TzifReader.{TzifText}

-- the text of a zone
pub data ZoneText : Type 0 where
  utc : ZoneText
  rule : TzText → ZoneText
  table : TzifText → ZoneText
