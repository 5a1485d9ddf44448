-- What a walk goes over, as its contracts speak of it.
use Rattle.std.specs.Prelude.{List, ℤ}
use Rattle.runs.specs.Models.{System}
use Rattle.runs.specs.Rule.{State, Walk}
use Rattle.model.specs.Outlines.{model_by, list_at, Outlines}
use Rattle.model.specs.Plain.{plain}
use Rattle.walk.specs.declared.Tally.{Tally}
use Rattle.area.specs.Records.{state}
use Rattle.walk.specs.declared.keeping.Keeper.{Keeper}
use Rattle.walk.specs.declared.keeping.Candidate.{Candidate}
use Rattle.walk.specs.declared.layers.Ground.{Ground}
use Rattle.walk.specs.Control.{Ready, walk_in}

-- the system of the model
abbrev pub system_of : Ground → System
system_of g = (plain (model_by g.outline.now)).system

-- how far the walk is
abbrev pub walk_on : Ground → Tally → List ℤ → Walk
walk_on g y area = walk_in g.outline.now.clocks y area

-- the target as it is read from the bytes, and what else states are kept by
abbrev pub keeper_of : Ground → Keeper
keeper_of g =
    record {
      n = g.outline.now.clocks;
      goal = record {
        location = g.outline.now.target;
        list = list_at g.outline.now.clocks g.outline.now.list.now;
      };
      room = g.room;
    }

-- the state that a candidate is
abbrev pub state_by : Candidate → State
state_by s = state s.location s.parent s.edge s.list.now

-- the outline is that of a model in limits, and the area is ready
pub record Grounded (g : Ground) (y : Tally) (area : List ℤ) : Type 0 where
  pub outlines : Outlines g.outline.now
  pub ready : Ready g.outline.now.clocks g.room y area
