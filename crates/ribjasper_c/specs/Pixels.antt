-- Formats of pixels as numbers.
use Rattle.std.specs.Prelude.{ℕ, ◌==◌, if◌then◌else◌}
use Rattle.live_player.specs.declared.format.PixelFormat.{PixelFormat}
use Rattle.live_player.specs.declared.format.PixelFormat.TheVariants.{Indexed, Rgb, Rgba, Bgra, RgbaLevels, BgraLevels, Rgb565}

-- the format with a number: 0 is indexed, then the formats of red, green and blue
abbrev pub pixel_format : ℕ → PixelFormat
pixel_format n =
    if n == 1 then Rgb
    else if n == 2 then Rgba
    else if n == 3 then Bgra
    else if n == 4 then RgbaLevels
    else if n == 5 then BgraLevels
    else if n == 6 then Rgb565
    else Indexed
