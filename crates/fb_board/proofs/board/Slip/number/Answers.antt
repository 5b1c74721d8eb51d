use Rattle.fb_board.proofs.board.Slip.number.Goals as goal

pub returns : goal.returns
returns c = c.self.view_is
