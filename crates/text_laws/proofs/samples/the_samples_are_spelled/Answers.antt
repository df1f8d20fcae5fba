use Rattle.std.proofs.Common.{◌≡◌, [], refl}
use Rattle.hs_base.specs.Names.{is_name}
use Rattle.hs_texts.specs.MissionText.{MissionText}
use Rattle.text_laws.specs.Parsers.{done, many}
use Rattle.text_laws.specs.MissionReading.{version_at, name_at, limit_at, range_at, use_at, kind_at, uses_at, next_at, do_at, until_at, part_at, parts_at, script_at, said_at, answers_at, plain_at, device_at, value_at, some_use_at, begin_at, var_at, one_range, two_ranges, relation_at, choice_at, further_at, choices_at, need_at, goal_at, horizon_at, clauses_at, mission_at}
use Rattle.text_laws.specs.Samples.{smallest_pieces, smallest, camera_pieces, camera}
use Rattle.text_laws.proofs.MissionLemmas.{mission_reads}
use Rattle.text_laws.proofs.AnswerLemmas.{read_whole_spells}
use Rattle.text_laws.proofs.samples.the_samples_are_spelled.Goals as goal

smallest_read : mission_at smallest_pieces ≡ done smallest []
unfolding many is_name version_at name_at limit_at range_at use_at kind_at uses_at next_at do_at until_at part_at parts_at script_at said_at answers_at plain_at device_at value_at some_use_at begin_at var_at one_range two_ranges relation_at choice_at further_at choices_at need_at goal_at horizon_at clauses_at mission_at
smallest_read = refl

camera_read : mission_at camera_pieces ≡ done camera []
unfolding many is_name version_at name_at limit_at range_at use_at kind_at uses_at next_at do_at until_at part_at parts_at script_at said_at answers_at plain_at device_at value_at some_use_at begin_at var_at one_range two_ranges relation_at choice_at further_at choices_at need_at goal_at horizon_at clauses_at mission_at
camera_read = refl

pub returns : goal.returns
returns c = record {
  smallest = read_whole_spells MissionText mission_at mission_reads smallest_pieces smallest smallest_read;
  camera = read_whole_spells MissionText mission_at mission_reads camera_pieces camera camera_read;
}
