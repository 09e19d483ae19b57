mod StayLaws
mod InPlaceLaws
