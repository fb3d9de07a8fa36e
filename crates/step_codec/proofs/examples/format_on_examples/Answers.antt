use Rattle.std.proofs.Common.{refl}
use Rattle.step_codec.specs.Faults.{reading}
use Rattle.step_codec.specs.Payload.{payload_of}
use Rattle.step_codec.specs.Tables.{number_at, passing_at, words_at, text_at, date_at}
use Rattle.step_codec.proofs.examples.format_on_examples.Goals as goal

pub returns : goal.returns
unfolding reading payload_of number_at passing_at words_at text_at date_at
returns c = record {
  begin = refl;
  read = refl;
  nothing = refl;
  no_tag = refl;
  cut_moment = refl;
  late_moment = refl;
  no_shard = refl;
  long = refl;
}
