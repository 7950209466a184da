use Rattle.picture_script.proofs.ShowNumbers.{lines_are_pictures}
use Rattle.picture_script.proofs.show_lines.each_picture_has_a_line.Goals as goal

pub returns : goal.returns
returns c text script h = lines_are_pictures text script h
