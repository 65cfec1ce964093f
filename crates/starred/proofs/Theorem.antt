-- The starred cases, as one theorem. Assumes nothing.
use Rattle.starred.specs.Table.{Starred}
use Rattle.starred.proofs.Closed as closed
use Rattle.starred.proofs.Probing as probing
use Rattle.starred.proofs.Controller as controller

pub starred : Starred
starred =
    record {
      star_1 = closed.star_1;
      star_2 = closed.star_2;
      star_3 = closed.star_3;
      star_4 = closed.star_4;
      star_5 = closed.star_5;
      star_6 = closed.star_6;
      star_7 = probing.star_7;
      star_8 = closed.star_8;
      star_9 = controller.star_9;
      star_10 = controller.star_10;
    }
