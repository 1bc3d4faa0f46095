mod Followed
mod OneMore
