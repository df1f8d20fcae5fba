-- Which commands are built.
use Rattle.std.proofs.Common.{◌≡◌, refl}
use Rattle.command_line.specs.declared.request.Command.{Command}
use Rattle.command_line.specs.declared.request.Command.TheVariants.{Print, Plan, Check, Net, Sim, Drill, Fly}
use Rattle.exec_main.specs.Ground.{IsBuilt}

-- `sim` is the only one beside four others
pub only_sim : (c : Command) → IsBuilt c → (c ≡ Print → ⊥) → (c ≡ Check → ⊥) → (c ≡ Plan → ⊥) → (c ≡ Net → ⊥) → c ≡ Sim
only_sim Print b print check plan net = absurd (print refl)
only_sim Plan b print check plan net = absurd (plan refl)
only_sim Check b print check plan net = absurd (check refl)
only_sim Net b print check plan net = absurd (net refl)
only_sim Sim b print check plan net = refl
only_sim Drill b print check plan net = absurd b
only_sim Fly b print check plan net = absurd b
