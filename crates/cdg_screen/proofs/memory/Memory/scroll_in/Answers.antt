use Rattle.cdg_screen.proofs.ScrolledPixels.{filled_pixel}
use Rattle.cdg_screen.proofs.memory.Memory.scroll_in.Goals as goal

pub returns : goal.returns
returns c x y x_lt y_lt =
    filled_pixel _ _ _ _ x y _ _ _ c.requires.across c.requires.down x_lt y_lt
    (c.scroll_round.ensures x y x_lt y_lt) (c.fill_free_columns.ensures x y x_lt y_lt)
    (c.fill_free_rows.ensures x y x_lt y_lt)
