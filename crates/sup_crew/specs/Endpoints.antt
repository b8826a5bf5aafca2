-- What a clause sees of an endpoint: of which queue it is, and its permission.
use Rattle.std.specs.Global.{Global}
use Rattle.crossbeam_queue.specs.SegTies.{SegId}
use Rattle.sup_crew.specs.declared.queue.Permission.{Permission}

pub record EndpointModel : Type 0 where
  pub queue : SegId Global
  pub permission : Permission
