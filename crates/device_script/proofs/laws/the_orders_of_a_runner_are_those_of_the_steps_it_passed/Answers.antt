use Rattle.device_script.proofs.OrderLemmas.{come_begun, come_given, come_heard}
use Rattle.device_script.proofs.laws.the_orders_of_a_runner_are_those_of_the_steps_it_passed.Goals as goal

pub returns : goal.returns
returns c = record { begins = come_begun; hears = come_heard; gives = come_given }
