mod ReadBack
mod Steps
