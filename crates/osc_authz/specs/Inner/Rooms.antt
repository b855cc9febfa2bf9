-- Room for a post among those that are known. No public contract rests on this.
use Rattle.std.specs.Prelude.{◌≤◌}
use Rattle.std.specs.Vec.{vec_capacity, vec_len}
use Rattle.osc_authz.specs.declared.agreed_post.PostRoom.{PostRoom}

-- as many as are kept fit into it
pub record IsRoom (room : PostRoom) : Type 0 where
  pub few : vec_len room.posts ≤ room.most
  pub capacity : room.most ≤ vec_capacity room.posts
